-- `linkcheck::run` meets its contract: the places stay within their buffers, and the records that are left to answer fall.
-- Assumes nothing.
use mathlib.Core.Bool.{cond}
use Prim.Native.Nat.{◌-◌}
use Rattle.linkcheck.proofs.Laws.{Running}
use Rattle.linkcheck.proofs.run.Given as goal

abbrev pub invariant-turns : goal.invariant-turns
invariant-turns g l = Running l.s l.initial.b.work l.b.input l.b.out l.b.first l.b.second l.b.work

abbrev pub decreases-turns : goal.decreases-turns
decreases-turns g l = cond l.s.ended 0 (65535 - l.s.done)

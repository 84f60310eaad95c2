-- `linkcheck::fill` meets its contract: what is left to read falls with every read, and what was left stays at the front.
-- Assumes nothing.
use Prim.Native.Nat.{◌-◌}
use lib.ListN.{length}
use Rattle.linkcheck.proofs.Laws.{Reading}
use Rattle.linkcheck.proofs.fill.Given as goal

abbrev pub invariant-reads : goal.invariant-reads
invariant-reads g l = Reading l.initial.input (l.s.to - l.s.from) l.input l.to

abbrev pub decreases-reads : goal.decreases-reads
decreases-reads g l = length l.input - l.to

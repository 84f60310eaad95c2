-- `ring::poly::centre` meets its contract: after k turns the first k values are centred.
-- Assumes nothing.
use mathlib.Core.Path.{ap, ◌∙◌}
use Prim.Native.Nat.{ℕ}
use native.Mathlib.Omega.{arith}
use Rattle.ring.specs.Integers.{residue, centred}
use Rattle.bits.proofs.Filling.{filling_more, filling_at}
use Rattle.ring.proofs.poly.centre.Goals as goal

pub loop-x-preserved : goal.loop-x-preserved
loop-x-preserved c =
    filling_more 0 c.loop-x.invariant (omega arith)
    (c.difference.ensures ∙ ap (λ (m : ℕ). residue 65536 (centred c.args.p m)) (filling_at 0 c.loop-x.invariant (omega arith)))

-- `ring::poly::add` meets its contract: after k turns the first k coefficients are added.
-- Assumes nothing.
use mathlib.Core.Path.{ap, ◌∙◌}
use Prim.Native.Nat.{ℕ}
use native.Mathlib.Omega.{arith}
use lib.IntN.{pos, ◌+ℤ◌}
use Rattle.bits.proofs.Filling.{filling_more, filling_at}
use Rattle.ring.specs.Integers.{residue}
use Rattle.ring.specs.Poly.{of_nats}
use Rattle.ring.proofs.poly.add.Goals as goal

pub loop-k-preserved : goal.loop-k-preserved
loop-k-preserved c =
    filling_more 0 c.loop-k.invariant (omega arith)
    (c.sum.ensures ∙ ap (λ (m : ℕ). residue 65536 (pos m +ℤ of_nats c.args.b.now c.loop-k.k)) (filling_at 0 c.loop-k.invariant (omega arith)))

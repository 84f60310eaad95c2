-- `ring::poly::negate` meets its contract: after k turns the first k coefficients are negated.
-- Assumes nothing.
use mathlib.Core.Path.{ap, ◌∙◌}
use native.Mathlib.Omega.{arith}
use lib.IntN.{neg_ℤ, +ℤ_idl}
use Rattle.ring.specs.Integers.{residue}
use Rattle.ring.specs.Poly.{of_nats}
use Rattle.bits.proofs.Filling.{filling_more}
use Rattle.ring.proofs.poly.negate.Goals as goal

pub loop-k-preserved : goal.loop-k-preserved
loop-k-preserved c =
    filling_more 0 c.loop-k.invariant (omega arith)
    (c.difference.ensures ∙ ap (residue 65536) (+ℤ_idl (neg_ℤ (of_nats c.args.src.now c.loop-k.k))))

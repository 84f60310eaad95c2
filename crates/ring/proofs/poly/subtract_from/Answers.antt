-- `ring::poly::subtract_from` meets its contract: after k turns the first k values are taken from c.
-- Assumes nothing.
use mathlib.Core.Path.{ap, ◌∙◌}
use Prim.Native.Nat.{ℕ}
use native.Mathlib.Omega.{arith}
use lib.IntN.{pos, ◌-ℤ◌}
use Rattle.ring.specs.Integers.{residue}
use Rattle.bits.proofs.Filling.{filling_more, filling_at}
use Rattle.ring.proofs.poly.subtract_from.Goals as goal

pub loop-x-preserved : goal.loop-x-preserved
loop-x-preserved c =
    filling_more 0 c.loop-x.invariant (omega arith)
    (c.difference.ensures ∙ ap (λ (m : ℕ). residue 65536 (pos c.args.c -ℤ pos m)) (filling_at 0 c.loop-x.invariant (omega arith)))

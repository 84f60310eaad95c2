-- `ring::poly::negate` meets its contract: after k turns the first k coefficients are negated.
-- Assumes nothing.
use Prim.Native.Nat.{ℕ}
use lib.IntN.{neg_ℤ}
use Rattle.ring.specs.Integers.{residue}
use Rattle.ring.specs.Poly.{of_nats}
use mathlib.Core.List.{List}
use Rattle.bits.proofs.Filling.{Filling}
use Rattle.ring.proofs.poly.negate.Given as goal

-- The coefficients negated.
abbrev pub negatives : List ℕ → ℕ → ℕ
negatives src j = residue 65536 (neg_ℤ (of_nats src j))

abbrev pub invariant-loop-k : goal.invariant-loop-k
invariant-loop-k l = Filling (negatives l.src) l.initial.dst l.k l.dst

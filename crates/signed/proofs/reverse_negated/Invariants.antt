-- `signed::reverse_negated` meets its contract: after k turns the first k entries of the list that is turned round are negated.
-- Assumes nothing.
use Prim.Native.Nat.{◌-◌}
use lib.IntN.{neg_ℤ}
use lib.ListN.{length}
use Rattle.ring.specs.Poly.{of_ints}
use Rattle.ring.specs.Terms.{backwards}
use Rattle.bits.proofs.Filling.{Filling}
use Rattle.signed.proofs.reverse_negated.Given as goal

abbrev pub invariant-loop-x : goal.invariant-loop-x
invariant-loop-x l = Filling (λ j. neg_ℤ (of_ints l.src (length l.src - 1 - j))) (backwards l.src) l.x-index l.dst

-- `product::halves::fold` meets its contract: after k turns the first k entries are written.
-- Assumes nothing.
use Prim.Native.Nat.{ℕ, ◌+◌}
use mathlib.Core.List.{List}
use lib.ListN.{length}
use Rattle.bits.proofs.Filling.{Filling}
use Rattle.ring.specs.Integers.{residue}
use Rattle.ring.specs.Poly.{plus, of_nats}
use Rattle.product.proofs.halves.fold.Given as goal

-- The sums of the first h entries with the next.
abbrev pub sums : ℕ → List ℕ → ℕ → ℕ
sums h v j = residue 65536 (plus (of_nats v) (λ i. of_nats v (h + i)) j)

abbrev pub invariant-loop-k : goal.invariant-loop-k
invariant-loop-k l = Filling (sums (length l.initial.dst) l.v) l.initial.dst l.k l.dst

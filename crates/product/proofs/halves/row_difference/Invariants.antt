-- `product::halves::row_difference` meets its contract: after k turns the first k entries are written.
-- Assumes nothing.
use Prim.Native.Nat.{ℕ, ◌+◌}
use mathlib.Core.List.{List}
use Rattle.bits.proofs.Filling.{Filling}
use Rattle.ring.specs.Integers.{residue}
use Rattle.ring.specs.Poly.{minus, of_nats}
use Rattle.product.proofs.halves.row_difference.Given as goal

-- The entries from place a on, less those from place b on.
abbrev pub differences : List ℕ → ℕ → ℕ → ℕ → ℕ
differences row a b j = residue 65536 (minus (λ i. of_nats row (a + i)) (λ i. of_nats row (b + i)) j)

abbrev pub invariant-loop-k : goal.invariant-loop-k
invariant-loop-k l = Filling (differences l.row l.a l.b) l.initial.dst l.k l.dst

-- `ring::poly::add` meets its contract: after k turns the first k coefficients are added.
-- Assumes nothing.
use mathlib.Core.List.{List}
use Prim.Native.Nat.{ℕ}
use Rattle.bits.proofs.Filling.{Filling}
use Rattle.ring.specs.Integers.{residue}
use Rattle.ring.specs.Poly.{plus, of_nats}
use Rattle.ring.proofs.poly.add.Given as goal

-- The coefficients of the sum.
abbrev pub sums : List ℕ → List ℕ → ℕ → ℕ
sums acc b j = residue 65536 (plus (of_nats acc) (of_nats b) j)

abbrev pub invariant-loop-k : goal.invariant-loop-k
invariant-loop-k l = Filling (sums l.initial.acc l.b) l.initial.acc l.k l.acc

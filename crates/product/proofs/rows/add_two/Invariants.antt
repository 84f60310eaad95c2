-- `product::rows::add_two` meets its contract: after k turns the first k coefficients have their terms.
-- Assumes nothing.
use mathlib.Core.List.{List}
use Prim.Native.Nat.{ℕ, ◌+◌}
use lib.ListN.{get_or}
use Rattle.bits.proofs.Filling.{Filling}
use Rattle.ring.specs.Terms.{add_term}
use Rattle.product.proofs.rows.add_two.Given as goal

-- Entry k with its terms.
abbrev pub columns : List ℕ → List ℕ → ℕ → ℕ → ℕ → ℕ
columns acc row a b k = add_term (add_term (get_or acc k 0) a (get_or row (k + 1) 0)) b (get_or row k 0)

abbrev pub invariant-loop-k : goal.invariant-loop-k
invariant-loop-k l = Filling (columns l.initial.acc l.row l.a l.b) l.initial.acc l.k l.acc

-- `product::rows::add_column` meets its contract: after k turns the first k coefficients have their term.
-- Assumes nothing.
use mathlib.Core.List.{List}
use Prim.Native.Nat.{ℕ}
use lib.ListN.{get_or}
use Rattle.bits.proofs.Filling.{Filling}
use Rattle.ring.specs.Terms.{add_term}
use Rattle.product.proofs.rows.add_column.Given as goal

-- Entry k with its term.
abbrev pub column : List ℕ → List ℕ → ℕ → ℕ → ℕ
column acc row a k = add_term (get_or acc k 0) a (get_or row k 0)

abbrev pub invariant-loop-k : goal.invariant-loop-k
invariant-loop-k l = Filling (column l.initial.acc l.row l.a) l.initial.acc l.k l.acc

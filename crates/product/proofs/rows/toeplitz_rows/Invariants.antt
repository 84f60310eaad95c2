-- `product::rows::toeplitz_rows` meets its contract: before entry i of v the columns before i are added.
-- Assumes nothing.
use Rattle.product.proofs.Columns.{Paired}
use Rattle.product.proofs.rows.toeplitz_rows.Given as goal

abbrev pub invariant-loop-i : goal.invariant-loop-i
invariant-loop-i l = Paired l.initial.acc l.row l.v l.i l.acc

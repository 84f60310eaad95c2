-- `matrix::add_product` meets its contract: before the polynomial in row i and column j the stream has given those before it, and
-- each sum has the products of those among them that go to it.
-- Assumes nothing.
use Rattle.matrix.proofs.Walking.{Walking}
use Rattle.matrix.proofs.add_product.Given as goal

abbrev pub invariant-loop-i : goal.invariant-loop-i
invariant-loop-i l = Walking l.p l.mu l.columns l.v l.initial.sums l.i 0 l.s l.sums

abbrev pub invariant-loop-j : goal.invariant-loop-j
invariant-loop-j l = Walking l.p l.mu l.columns l.v l.fn.sums l.i l.j l.s l.sums

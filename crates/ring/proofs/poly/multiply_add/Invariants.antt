-- `ring::poly::multiply_add` meets its contract: after i coefficients of a the first i rows of the product are added.
-- Assumes nothing.
use Rattle.ring.proofs.Product.{Added}
use Rattle.ring.proofs.poly.multiply_add.Given as goal

abbrev pub invariant-loop-i : goal.invariant-loop-i
invariant-loop-i l = Added l.initial.acc l.a l.b l.row l.i l.acc

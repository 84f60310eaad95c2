-- `signed::multiply_add` meets its contract: after k turns the first k coefficients of the product are added.
-- Assumes nothing.
use Rattle.signed.proofs.Summing.{Multiplied}
use Rattle.signed.proofs.multiply_add.Given as goal

abbrev pub invariant-loop-k : goal.invariant-loop-k
invariant-loop-k l = Multiplied l.initial.acc l.a l.b l.row l.k l.acc

-- `ring::poly::copy` meets its contract: after k turns the first k coefficients are copied.
-- Assumes nothing.
use lib.ListN.{get_or}
use Rattle.bits.proofs.Filling.{Filling}
use Rattle.ring.proofs.poly.copy.Given as goal

abbrev pub invariant-loop-k : goal.invariant-loop-k
invariant-loop-k l = Filling (λ j. get_or l.src j 0) l.initial.dst l.k l.dst

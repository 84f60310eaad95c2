-- `signed::centre` meets its contract: after k turns the first k values are centred.
-- Assumes nothing.
use lib.ListN.{get_or}
use Rattle.ring.specs.Integers.{centred}
use Rattle.bits.proofs.Filling.{Filling}
use Rattle.signed.proofs.centre.Given as goal

abbrev pub invariant-loop-k : goal.invariant-loop-k
invariant-loop-k l = Filling (λ j. centred l.p (get_or l.src j 0)) l.initial.dst l.k l.dst

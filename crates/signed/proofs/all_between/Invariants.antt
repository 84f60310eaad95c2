-- `signed::all_between` meets its contract: after i turns it is known whether the first i numbers lie between.
-- Assumes nothing.
use lib.ListN.{length, take}
use Rattle.ring.specs.Integers.{all_between}
use Rattle.keccak.proofs.Loops.{Carried}
use Rattle.signed.proofs.all_between.Given as goal

abbrev pub invariant-loop-x : goal.invariant-loop-x
invariant-loop-x l = Carried (length l.xs) (λ k. all_between l.low l.high (take k l.xs)) l.x-index l.all

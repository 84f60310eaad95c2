-- `signed::largest` meets its contract: after i turns the largest of the first i numbers is known.
-- Assumes nothing.
use lib.ListN.{length, take}
use Rattle.ring.specs.Integers.{largest}
use Rattle.keccak.proofs.Loops.{Carried}
use Rattle.signed.proofs.largest.Given as goal

abbrev pub invariant-loop-x : goal.invariant-loop-x
invariant-loop-x l = Carried (length l.xs) (λ k. largest (take k l.xs)) l.x-index l.m

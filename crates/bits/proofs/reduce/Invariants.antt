-- `bits::reduce` meets its contract: after k turns the first k coefficients are reduced.
-- Assumes nothing.
use Prim.Native.Nat.{◌%◌, ◌^◌}
use lib.ListN.{get_or}
use Rattle.bits.proofs.Filling.{Filling}
use Rattle.bits.proofs.reduce.Given as goal

abbrev pub invariant-loop-x : goal.invariant-loop-x
invariant-loop-x l = Filling (λ j. get_or l.initial.xs j 0 % 2 ^ l.w) l.initial.xs l.x-index l.xs

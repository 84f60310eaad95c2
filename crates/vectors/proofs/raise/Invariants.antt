-- `vectors::raise` meets its contract: the coefficients before x are multiplied.
-- Assumes nothing.
use Rattle.std.proofs.Common.{◌≡◌, map, ◌*◌, ◌%◌, ◌^◌, ◌++◌, take, drop}
use Rattle.vectors.proofs.raise.Given as goal

abbrev pub invariant-loop-x : goal.invariant-loop-x
invariant-loop-x l = l.xs ≡ map (λ c. c * 2 ^ l.t % 65536) (take l.x-index l.initial.xs) ++ drop l.x-index l.initial.xs

-- `vectors::compress` meets its contract: the coefficients before x have lost their low bits.
-- Assumes nothing.
use Rattle.std.proofs.Common.{◌≡◌, map, ◌++◌, take, drop}
use Rattle.kindi.specs.Keys.{compress}
use Rattle.vectors.proofs.compress.Given as goal

abbrev pub invariant-loop-x : goal.invariant-loop-x
invariant-loop-x l = l.xs ≡ map (compress l.t) (take l.x-index l.initial.xs) ++ drop l.x-index l.initial.xs

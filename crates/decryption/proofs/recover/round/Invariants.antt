-- `decryption::recover::round` meets its contract: the values before x are rounded.
-- Assumes nothing.
use mathlib.Core.List.{map, ◌++◌}
use mathlib.Core.Path.{◌≡◌}
use Prim.Native.Nat.{◌^◌}
use lib.ListN.{take, drop}
use Rattle.kindi.specs.Decrypt.{rounded_bit}
use Rattle.decryption.proofs.recover.round.Given as goal

abbrev pub invariant-loop-x : goal.invariant-loop-x
invariant-loop-x l = l.xs ≡ map (rounded_bit (2 ^ l.k)) (take l.x-index l.initial.xs) ++ drop l.x-index l.initial.xs

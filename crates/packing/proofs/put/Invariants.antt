-- `packing::put` meets its contract: after i turns the first i bytes are the low digits of v.
-- Assumes nothing.
use Prim.Native.Nat.{◌*◌, ◌/◌, ◌%◌, ◌^◌}
use Rattle.bits.proofs.Filling.{Filling}
use Rattle.packing.proofs.put.Given as goal

abbrev pub invariant-loop-i : goal.invariant-loop-i
invariant-loop-i l = Filling (λ j. l.v / 2 ^ (8 * j) % 2 ^ 8) l.initial.dst l.i l.dst

-- `packing::pack_each` meets its contract: after each turn the string holds the bits of one coefficient more.
-- Assumes nothing.
use Rattle.packing.proofs.Packing.{Packed}
use Rattle.packing.proofs.pack_each.Given as goal

abbrev pub invariant-loop-c : goal.invariant-loop-c
invariant-loop-c l = Packed l.w l.src l.c-index l.k l.count l.pending l.dst

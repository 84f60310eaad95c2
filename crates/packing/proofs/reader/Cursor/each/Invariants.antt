-- `packing::reader::Cursor::each` meets its contract: after each turn one coefficient more is read.
-- Assumes nothing.
use Rattle.packing.proofs.Reading.{Reading}
use Rattle.packing.proofs.reader.Cursor.each.Given as goal

abbrev pub invariant-loop-value : goal.invariant-loop-value
invariant-loop-value l = Reading l.w l.src l.initial.c l.initial.dst l.value-index l.c l.dst

-- `packing::reader::Cursor::each` meets its contract: after each turn one coefficient more is read.
-- Assumes nothing.
use native.Mathlib.Omega.{arith}
use Rattle.packing.proofs.Reading.{reading_none, reading_held, reading_one}
use Rattle.packing.proofs.reader.Cursor.each.Goals as goal

pub loop-value-init : goal.loop-value-init
loop-value-init c = reading_none c.requires

pub one-one-requires : goal.one-one-requires
one-one-requires c = reading_held c.loop-value.invariant (omega arith)

pub loop-value-preserved : goal.loop-value-preserved
loop-value-preserved c = reading_one c.loop-value.invariant (omega arith) c.one-one.ensures

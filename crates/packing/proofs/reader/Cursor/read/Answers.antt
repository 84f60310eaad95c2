-- `packing::reader::Cursor::read` meets its contract: the coefficients of the turns of eight, and then the rest.
-- Assumes nothing.
use mathlib.Core.Path.{refl}
use native.Mathlib.Omega.{arith}
use lib.ListN.{length-take, length-drop}
use Rattle.packing.proofs.Reading.{reading_none, eights_hold, eights_more, begun_held, begun_all}
use Rattle.packing.proofs.reader.Cursor.read.Goals as goal

pub loop-dst-init : goal.loop-dst-init
loop-dst-init c = record { reading = reading_none c.requires; hold = c.end-end.ensures; same = refl }

pub eight-c-requires : goal.eight-c-requires
eight-c-requires c = (eights_hold c.loop-dst.invariant (omega arith), simp (length-take, length-drop) (omega arith))

pub loop-dst-preserved : goal.loop-dst-preserved
loop-dst-preserved c = eights_more c.loop-dst.invariant (omega arith) c.eight-c.ensures

pub each-requires : goal.each-requires
each-requires c = begun_held c.requires c.loop-dst.invariant.reading.begun

pub returns : goal.returns
returns c = begun_all c.requires c.loop-dst.invariant.reading.begun c.each.ensures

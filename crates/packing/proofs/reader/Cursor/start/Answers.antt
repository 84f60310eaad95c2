-- `packing::reader::Cursor::start` meets its contract: bit 0 is bit 0 of byte 0.
-- Assumes nothing.
use mathlib.Core.Path.{refl}
use Rattle.packing.specs.Reading.{cursor_at}
use Rattle.packing.proofs.reader.Cursor.start.Goals as goal

pub returns : goal.returns
unfolding cursor_at
returns c = refl

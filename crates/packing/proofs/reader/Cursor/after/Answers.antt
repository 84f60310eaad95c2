-- `packing::reader::Cursor::after` meets its contract: whole bytes of the sum of bit and width go to the place.
-- Assumes nothing.
use Rattle.packing.proofs.Reading.{moved_on}
use Rattle.packing.proofs.reader.Cursor.after.Goals as goal

pub returns : goal.returns
returns c = moved_on c.args.self c.args.bits c.requires.0

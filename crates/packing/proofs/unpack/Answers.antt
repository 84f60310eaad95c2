-- `packing::unpack` meets its contract: what is read from bit 0 on.
-- Assumes nothing.
use Rattle.packing.proofs.Reading.{start_held, start_read}
use Rattle.packing.proofs.unpack.Goals as goal

pub read-requires : goal.read-requires
read-requires c = rw c.start.ensures (start_held c.requires.0 c.requires.1)

pub returns : goal.returns
returns c = start_read c.start.ensures c.read.ensures

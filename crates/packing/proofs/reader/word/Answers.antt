-- `packing::reader::word` meets its contract: eight bytes are the low 64 bits.
-- Assumes nothing.
use mathlib.Core.Path.{◌∙◌}
use Rattle.packing.proofs.Bytes.{low_64}
use Rattle.packing.proofs.reader.word.Goals as goal

pub returns : goal.returns
returns c = c.from_le_bytes.ensures ∙ low_64 c.args.s.now (λ i. (c.shared_slice_known-1.given i).fits)

-- `packing::reader::low_word` meets its contract: four bytes, or what there is of them, are the low 32 bits.
-- Assumes nothing.
use mathlib.Core.Path.{◌∙◌}
use Rattle.packing.proofs.Bytes.{low_32}
use Rattle.packing.proofs.reader.low_word.Goals as goal

pub returns-then-s-ge4 : goal.returns-then-s-ge4
returns-then-s-ge4 c = c.from_le_bytes.ensures ∙ low_32 c.args.s.now (λ i. (c.shared_slice_known-1.given i).fits)

pub returns : goal.returns
returns c =
    c.from_le_bytes-2.ensures
    ∙ rw (
      c.byte_or_zero.ensures,
      c.byte_or_zero-2.ensures,
      c.byte_or_zero-3.ensures,
      c.byte_or_zero-4.ensures,
    ) (low_32 c.args.s.now (λ i. (c.shared_slice_known-1.given i).fits))

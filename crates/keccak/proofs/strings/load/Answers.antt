-- `keccak::strings::load` meets its contract: the lane is that of its eight bytes.
-- Assumes nothing.
use mathlib.Core.Path.{◌∙◌}
use Rattle.keccak.proofs.Parts.{lane_loaded}
use Rattle.keccak.proofs.strings.load.Goals as goal

pub returns : goal.returns
returns c = c.from_le_bytes.ensures ∙ lane_loaded c.args.s.now c.args.i c.requires c.copy_from_slice.ensures.after

-- `keccak::strings::store` meets its contract: the eight bytes are the lane's digits.
-- Assumes nothing.
use mathlib.Core.Path.{◌∙◌}
use Rattle.keccak.proofs.Parts.{eight_digits}
use Rattle.keccak.proofs.strings.store.Goals as goal

pub returns : goal.returns
returns c = c.copy_from_slice.ensures.after ∙ c.to_le_bytes.ensures ∙ eight_digits c.args.v

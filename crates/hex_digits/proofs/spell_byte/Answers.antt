-- `hex_digits::spell_byte` meets its contract: the high digit stands first.
-- Assumes nothing.
use Rattle.hex_digits.specs.Digits.{byte_digits}
use Rattle.hex_digits.proofs.spell_byte.Goals as goal

pub returns : goal.returns
unfolding byte_digits
returns c = cc

-- `hex_digits::spell` meets its contract: the line is filled byte by byte.
-- Assumes nothing.
use mathlib.Core.Path.{refl, ap, ◌∙◌}
use native.Mathlib.Omega.{arith}
use lib.ListN.{length}
use Rattle.hex_digits.specs.Digits.{byte_digits, hexadecimal}
use Rattle.keccak.proofs.Parts.{parts_begun, parts_more, parts_all}
use Rattle.hex_digits.proofs.spell.Goals as goal

pub loop-i-init : goal.loop-i-init
loop-i-init c = parts_begun refl (omega arith)

pub loop-i-preserved : goal.loop-i-preserved
unfolding byte_digits
loop-i-preserved c =
    let wrote = c.copy_from_slice.ensures.after ∙ c.spell_byte.ensures in
    parts_more c.loop-i.invariant 0 (omega arith) (ap length wrote) wrote

pub returns : goal.returns
unfolding hexadecimal
returns c = parts_all c.loop-i.invariant (omega arith)

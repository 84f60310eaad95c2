-- `hex_digits::spell` meets its contract: the line is filled byte by byte.
-- Assumes nothing.
use lib.ListN.{length}
use Rattle.hex_digits.specs.Digits.{byte_digits}
use Rattle.keccak.proofs.Parts.{PartsWritten}
use Rattle.hex_digits.proofs.spell.Given as goal

abbrev pub invariant-loop-i : goal.invariant-loop-i
invariant-loop-i l = PartsWritten byte_digits l.bytes 2 (length l.bytes) l.i l.line

-- `keccak::strings::from_state` meets its contract: the string is filled row by row.
-- Assumes nothing.
use Rattle.keccak.specs.Strings.{row_string}
use Rattle.keccak.proofs.Parts.{PartsWritten}
use Rattle.keccak.proofs.strings.from_state.Given as goal

abbrev pub invariant-loop-y : goal.invariant-loop-y
invariant-loop-y l = PartsWritten row_string l.row-items 40 5 l.y l.s

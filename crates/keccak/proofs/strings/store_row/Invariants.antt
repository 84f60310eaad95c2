-- `keccak::strings::store_row` meets its contract: the string is filled lane by lane.
-- Assumes nothing.
use Rattle.keccak.proofs.Parts.{PartsWritten}
use Rattle.keccak.specs.Lists.{digits}
use Rattle.keccak.proofs.strings.store_row.Given as goal

abbrev pub invariant-loop-x : goal.invariant-loop-x
invariant-loop-x l = PartsWritten (digits 8 8) l.lane-items 8 5 l.x l.dst

-- `bits::store` meets its contract: after i turns the first i coefficients are stored.
-- Assumes nothing.
use lib.ListN.{length}
use Rattle.keccak.specs.Lists.{digits}
use Rattle.keccak.proofs.Parts.{PartsWritten}
use Rattle.bits.proofs.store.Given as goal

abbrev pub invariant-loop-i : goal.invariant-loop-i
invariant-loop-i l = PartsWritten (digits 8 2) l.src 2 (length l.src) l.i l.dst

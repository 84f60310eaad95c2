-- `recipients::each::encrypt_parts` meets its contract: after i turns the ciphertexts of the first i recipients are there.
-- Assumes nothing.
use Rattle.recipients.proofs.Places.{Sealing}
use Rattle.recipients.proofs.each.encrypt_parts.Given as goal

abbrev pub invariant-loop-i : goal.invariant-loop-i
invariant-loop-i l = Sealing l.p l.count l.keys l.list l.message l.initial.dst l.initial.work l.dst l.work l.i

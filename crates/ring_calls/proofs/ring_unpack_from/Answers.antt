-- `ring_calls::ring_unpack_from` meets its contract: what is read, where the string has it.
-- Assumes nothing.
use borrow.Author.Rules.{rules}
use Rattle.ring_calls.proofs.From.{finish_from}
use Rattle.ring_calls.proofs.ring_unpack_from.Goals as goal

pub returns : goal.returns
returns c = finish_from (search rules) c.read-next.ensures

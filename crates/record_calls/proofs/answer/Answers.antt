-- `record_calls::answer` meets its contract: each branch is the kind's call.
-- Assumes nothing.
use Rattle.record_calls.proofs.ByKind.{kind_5}
use Rattle.record_calls.proofs.answer.Goals as goal

pub returns-in_default : goal.returns-in_default
returns-in_default c = search kind_5

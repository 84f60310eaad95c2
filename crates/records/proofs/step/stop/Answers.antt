-- `records::step::stop` meets its contract.
-- Assumes nothing.
use Rattle.records.proofs.Stepping.{stopped_exit}
use Rattle.records.proofs.step.stop.Goals as goal

pub returns : goal.returns
returns c = stopped_exit c.over.ensures c.put_refusal-at.ensures

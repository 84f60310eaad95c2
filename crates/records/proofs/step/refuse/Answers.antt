-- `records::step::refuse` meets its contract: each arm is the step of its case.
-- Assumes nothing.
use Rattle.records.proofs.Stepping.{end_exit, ended_exit, unknown_exit}
use Rattle.records.proofs.step.refuse.Goals as goal

pub returns-in-End : goal.returns-in-End
returns-in-End c = rw c.in-End.is (end_exit c.over.ensures)

pub returns-in-Short : goal.returns-in-Short
returns-in-Short c = ended_exit c.in-Short.is c.number-status.ensures c.stop.ensures

pub returns-in-Unknown : goal.returns-in-Unknown
returns-in-Unknown c =
    let line = rw (c.number-status.ensures, c.in-Unknown.is) at c.put_refusal-at.ensures in
    rw c.in-Unknown.is (unknown_exit _ _ (rw c.from.ensures at c.answered.ensures) line)

-- `records::step::step` meets its contract: a refusal leaves early, and the line of a whole record has its answer.
-- Assumes nothing.
use Rattle.std.proofs.Common.{sym, ◌∙◌}
use Rattle.records.proofs.Stepping.{refused_exit, whole_exit}
use Rattle.records.proofs.Headers.{whole_there}
use Rattle.records.proofs.step.step.Goals as goal

pub returns-in_default : goal.returns-in_default
returns-in_default c = refused_exit _ (sym c.unwrap_err.ensures ∙ c.read_header-read.ensures) c.refuse.ensures

pub slice_bounds-answer-end : goal.slice_bounds-answer-end
slice_bounds-answer-end c = rw c.from-end.ensures (whole_there _ (sym c.in-Ok.is ∙ c.read_header-read.ensures))

pub returns-in-Ok-answer : goal.returns-in-Ok-answer
returns-in-Ok-answer c =
    let given = rw (c.from-set.ensures, c.from-end.ensures) at c.in-Ok-answer.ensures in
    whole_exit _ (sym c.in-Ok.is ∙ c.read_header-read.ensures) given c.put-at.ensures (rw c.from-end.ensures at c.answered.ensures)

pub returns-in-Err : goal.returns-in-Err
returns-in-Err c =
    let given = rw (c.from-set.ensures, c.from-end.ensures) at c.in-Err.ensures in
    whole_exit _ (sym c.in-Ok.is ∙ c.read_header-read.ensures) given (rw c.from.ensures at c.put_refusal-at.ensures)
    (rw c.from-end.ensures at c.answered-in-Err.ensures)

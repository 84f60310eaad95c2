-- `linkcheck::ready` meets its contract.
-- Assumes nothing.
use mathlib.Core.Path.{sym, ◌∙◌}
use Rattle.std.proofs.lemmas.Result.{IfOk-weaker, IfErr-weaker}
use Rattle.linkcheck.proofs.Laws.{goes_on_at_once, goes_on_waited, of_error, ready_there, ready_waited, unwritten_at_once, unwritten_waited}
use Rattle.linkcheck.proofs.ready.Goals as goal

pub returns-then-not-waits-clause-ok : goal.returns-then-not-waits-clause-ok
returns-then-not-waits-clause-ok g c =
    IfOk-weaker _ _ _ (λ r made. ready_there c.requires made (sym c.waits.ensures ∙ c.if-not-waits.true)) c.make_room.ensures.ok

pub returns-clause-ok : goal.returns-clause-ok
returns-clause-ok g c = ready_waited c.requires.room (sym c.waits.ensures ∙ c.if-not-waits.false) c.fill-filled.ensures

pub returns-then-not-waits-clause-ended : goal.returns-then-not-waits-clause-ended
returns-then-not-waits-clause-ended g c =
    goes_on_at_once c.make_room.result c.args.s c.args.input.now c.args.out.now (sym c.waits.ensures ∙ c.if-not-waits.true)
    c.make_room.ensures.ended

pub returns-clause-ended : goal.returns-clause-ended
returns-clause-ended g c = goes_on_waited _ _ _ (sym c.waits.ensures ∙ c.if-not-waits.false)

pub returns-then-not-waits-clause-err : goal.returns-then-not-waits-clause-err
returns-then-not-waits-clause-err g c =
    IfErr-weaker _ _ _ (λ e none. unwritten_at_once (sym c.waits.ensures ∙ c.if-not-waits.true) none) c.make_room.ensures.err

pub returns-in_err-written-clause-err : goal.returns-in_err-written-clause-err
returns-in_err-written-clause-err g c =
    of_error _ (unwritten_waited (sym c.waits.ensures ∙ c.if-not-waits.false) c.fill-filled.ensures)

-- `calls::work::finish` meets its contract: the work area is wiped where both tests hold.
-- Assumes nothing.
use Rattle.std.proofs.Common.{sym, ◌∙◌, arith}
use Rattle.calls.proofs.Ends.{no_set, short_work, work_wiped}
use Rattle.calls.proofs.work.finish.Goals.{else-is_set-via-then-is_set+else-work-need, else-is_set-via-else-is_set}
use Rattle.calls.proofs.work.finish.Goals as goal

pub returns-then-work-need : goal.returns-then-work-need
returns-then-work-need c = c.wipe.ensures ∙ work_wiped _ _ _ (sym c.is_set.ensures ∙ c.if-is_set.true) (omega (arith, c.if-work-need.true))

pub returns-else-is_set : goal.returns-else-is_set
returns-else-is_set c =
    elim c.else-is_set.branch [
      | else-is_set-via-then-is_set+else-work-need w ↦ short_work _ _ _ w.if-work-need.false
      | else-is_set-via-else-is_set w ↦ no_set _ _ _ (sym c.is_set.ensures ∙ w.if-is_set.false)
    ]

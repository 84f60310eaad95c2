-- `linkcheck::run` meets its contract: the places stay within their buffers, and the records that are left to answer fall.
-- Assumes nothing.
use borrow.Author.Rules.{rules}
use borrow.Author.Tests.{not-true}
use Rattle.linkcheck.proofs.Laws.{turn_falls, running_more}
use Rattle.linkcheck.proofs.run.Goals as goal

pub turns-smaller : goal.turns-smaller
turns-smaller g c = turn_falls c.turns.invariant (not-true _ c.turns-test.true) c.in_ok-r.ensures.ok c.answer-s.ensures

pub turns-preserved : goal.turns-preserved
turns-preserved g c = running_more c.turns.invariant (not-true _ c.turns-test.true) c.in_ok-r.ensures.ok c.answer-s.ensures (search rules)

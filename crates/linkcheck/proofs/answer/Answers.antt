-- `linkcheck::answer` meets its contract.
-- Assumes nothing.
use native.Mathlib.Omega.{arith}
use Rattle.linkcheck.specs.Turns.{window_of}
use Rattle.linkcheck.proofs.Laws.{reads_within, answered}
use Rattle.linkcheck.proofs.answer.Goals as goal

pub overflow_add-result : goal.overflow_add-result
unfolding window_of
overflow_add-result c = omega (arith, reads_within c.args.s c.args.input.now c.requires.in_order)

pub returns : goal.returns
returns c = answered c.step-r.ensures

-- `hash::sponge::Sponge::skip` meets its contract: with what is left the sponge will have advanced by all n bytes.
-- Assumes nothing.
use Rattle.hash.proofs.Steps.{Skipping}
use Rattle.hash.proofs.sponge.Sponge.skip.Given as goal

abbrev pub invariant-loop-left : goal.invariant-loop-left
invariant-loop-left l = Skipping l.initial.s l.n l.s l.left

abbrev pub decreases-loop-left : goal.decreases-loop-left
decreases-loop-left l = l.left

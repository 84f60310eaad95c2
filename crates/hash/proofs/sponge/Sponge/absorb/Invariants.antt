-- `hash::sponge::Sponge::absorb` meets its contract: with the rest of the input the sponge will have absorbed all of it.
-- Assumes nothing.
use lib.ListN.{length}
use Rattle.hash.proofs.Steps.{Absorbing}
use Rattle.hash.proofs.sponge.Sponge.absorb.Given as goal

abbrev pub invariant-loop-rest : goal.invariant-loop-rest
invariant-loop-rest l = Absorbing l.initial.s l.initial.rest l.s l.rest

abbrev pub decreases-loop-rest : goal.decreases-loop-rest
decreases-loop-rest l = length l.rest

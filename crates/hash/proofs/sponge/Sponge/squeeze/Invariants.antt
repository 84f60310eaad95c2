-- `hash::sponge::Sponge::squeeze` meets its contract: after each turn the output up to `done` is what the sponge gives first, and
-- the sponge has advanced by as much.
-- Assumes nothing.
use Prim.Native.Nat.{◌-◌}
use lib.ListN.{length}
use Rattle.hash.proofs.Steps.{Squeezing}
use Rattle.hash.proofs.sponge.Sponge.squeeze.Given as goal

abbrev pub invariant-loop-done : goal.invariant-loop-done
invariant-loop-done l = Squeezing l.initial.s l.initial.output l.done l.s l.output

abbrev pub decreases-loop-done : goal.decreases-loop-done
decreases-loop-done l = length l.initial.output - l.done

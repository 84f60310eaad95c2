-- `packing::pack` meets its contract: after each turn the bytes of eight coefficients more are written.
-- Assumes nothing.
use lib.ListN.{length}
use Rattle.packing.proofs.Packing.{Eights}
use Rattle.packing.proofs.pack.Given as goal

abbrev pub invariant-loop-eight : goal.invariant-loop-eight
invariant-loop-eight l = Eights l.w l.src l.rest l.k l.dst

abbrev pub decreases-loop-eight : goal.decreases-loop-eight
decreases-loop-eight l = length l.rest

-- `noise::sums::subtract_from` meets its contract: the coefficients before k are subtracted.
-- Assumes nothing.
use Rattle.bits.proofs.Filling.{Filling}
use Rattle.ring.specs.Poly.{minus, of_ints}
use Rattle.noise.proofs.sums.subtract_from.Given as goal

abbrev pub invariant-loop-k : goal.invariant-loop-k
invariant-loop-k l = Filling (minus (of_ints l.x) (of_ints l.initial.acc)) l.initial.acc l.k l.acc

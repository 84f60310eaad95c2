-- `noise::factors::combine` meets its contract: the coefficients of X before k are there.
-- Assumes nothing.
use Prim.Native.Nat.{◌-◌, ◌^◌}
use lib.IntN.{pos, ◌+ℤ◌, ◌-ℤ◌}
use lib.ListN.{get_or}
use Rattle.bits.proofs.Filling.{Filling}
use Rattle.ring.specs.Integers.{centred}
use Rattle.noise.proofs.factors.combine.Given as goal

abbrev pub invariant-loop-k : goal.invariant-loop-k
invariant-loop-k l =
    Filling (λ j. (centred (2 ^ (l.p.t - 1)) (get_or l.w j 0) +ℤ centred l.p.p (get_or l.r j 0)) -ℤ pos (get_or l.low j 0)) l.initial.dst l.k l.dst

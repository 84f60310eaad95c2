-- `ring::poly::subtract_from` meets its contract: after k turns the first k values are taken from c.
-- Assumes nothing.
use Prim.Native.Nat.{ℕ}
use lib.ListN.{get_or}
use lib.IntN.{pos, ◌-ℤ◌}
use Rattle.ring.specs.Integers.{residue}
use mathlib.Core.List.{List}
use Rattle.bits.proofs.Filling.{Filling}
use Rattle.ring.proofs.poly.subtract_from.Given as goal

-- c less the values.
abbrev pub taken : ℕ → List ℕ → ℕ → ℕ
taken c xs j = residue 65536 (pos c -ℤ pos (get_or xs j 0))

abbrev pub invariant-loop-x : goal.invariant-loop-x
invariant-loop-x l = Filling (taken l.c l.initial.xs) l.initial.xs l.x-index l.xs

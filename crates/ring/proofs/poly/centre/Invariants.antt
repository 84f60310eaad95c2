-- `ring::poly::centre` meets its contract: after k turns the first k values are centred.
-- Assumes nothing.
use Prim.Native.Nat.{ℕ}
use lib.ListN.{get_or}
use Rattle.ring.specs.Integers.{residue, centred}
use mathlib.Core.List.{List}
use Rattle.bits.proofs.Filling.{Filling}
use Rattle.ring.proofs.poly.centre.Given as goal

-- The values less p.
abbrev pub centres : List ℕ → ℕ → ℕ → ℕ
centres xs p j = residue 65536 (centred p (get_or xs j 0))

abbrev pub invariant-loop-x : goal.invariant-loop-x
invariant-loop-x l = Filling (centres l.initial.xs l.p) l.initial.xs l.x-index l.xs

-- `bits::load` meets its contract: after i turns the first i coefficients are loaded.
-- Assumes nothing.
use Prim.Native.Nat.{◌*◌, ◌/◌, ◌%◌, ◌^◌, ℕ}
use Rattle.keccak.specs.Lists.{value}
use mathlib.Core.List.{List}
use Rattle.bits.proofs.Filling.{Filling}
use Rattle.bits.proofs.load.Given as goal

-- The coefficients that the bytes have.
abbrev pub coefficients : List ℕ → ℕ → ℕ
coefficients src i = value 8 src / 2 ^ (16 * i) % 2 ^ 16

abbrev pub invariant-loop-i : goal.invariant-loop-i
invariant-loop-i l = Filling (coefficients l.src) l.initial.dst l.i l.dst

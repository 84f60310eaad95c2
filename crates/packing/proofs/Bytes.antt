-- Numbers and their bytes, the lowest first. Assumes nothing.
use mathlib.Core.List.{List, [], ◌∷◌}
use mathlib.Core.Path.{◌≡◌}
use Prim.Native.Nat.{ℕ, ◌%◌, ◌^◌}
use native.Mathlib.Nat.{div-div-eq-div-mul}
use native.Mathlib.Omega.{arith}
use lib.ListN.{get_or}
use mir.Syntax.{w32, w64}
use Rattle.std.specs.Int.{from_le_bytes, to_le_bytes}
use Rattle.keccak.specs.Lists.{value, digits}
use Rattle.bits.proofs.Digits.{four_bytes}
use Rattle.bits.proofs.Words.{eight_bytes}
use Rattle.bits.specs.Bits.{Below}

-- The bytes of a number are its digits.
pub four_digits : (v : ℕ) → to_le_bytes w32 v ≡ digits 8 4 v
unfolding digits
four_digits v = simp div-div-eq-div-mul

pub eight_digits : (v : ℕ) → to_le_bytes w64 v ≡ digits 8 8 v
unfolding digits
eight_digits v = simp div-div-eq-div-mul

-- The number of the first bytes of a string.
pub low_32 : (bs : List ℕ) → Below 256 bs
    → from_le_bytes w32 (get_or bs 0 0 ∷ get_or bs 1 0 ∷ get_or bs 2 0 ∷ get_or bs 3 0 ∷ []) ≡ value 8 bs % 2 ^ 32
low_32 bs h = omega (arith, four_bytes bs h)

pub low_64 : (bs : List ℕ) → Below 256 bs
    → from_le_bytes w64 (get_or bs 0 0 ∷ get_or bs 1 0 ∷ get_or bs 2 0 ∷ get_or bs 3 0 ∷ get_or bs 4 0 ∷ get_or bs 5 0 ∷ get_or bs 6 0 ∷ get_or bs 7 0 ∷ [])
    ≡ value 8 bs % 2 ^ 64
low_64 bs h = omega (arith, eight_bytes bs h)

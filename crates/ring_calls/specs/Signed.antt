-- Products of centred values that come packed, and what they ask. Rests on the ring's definitions.
use Rattle.std.specs.Prelude.{List, ℕ, ◌*◌, ◌≤◌, ℤ, pos, length, replicate}
use Rattle.bits.specs.Bits.{bytes_for, unpack}
use Rattle.ring.specs.Coefficients.{centred_integers, with_signed_product}

-- n values of w bits in bytes, each less p.
abbrev pub centred_string : ℕ → ℕ → ℕ → List ℕ → List ℤ
centred_string w p n bytes = centred_integers p (unpack w n bytes)

-- Up to 512 values of up to 10 bits in both strings, and p up to 1,024: no sum of products leaves 32 bits.
pub record Small (w p n : ℕ) (a b : List ℕ) : Type 0 where
  pub short : n ≤ 512
  pub narrow : w ≤ 10
  pub near : p ≤ 1024
  pub first : bytes_for (w * n) ≤ length a
  pub second : bytes_for (w * n) ≤ length b

-- The product of two such strings of n values.
abbrev pub signed_product : ℕ → ℕ → ℕ → List ℕ → List ℕ → List ℤ
signed_product w p n a b = with_signed_product (replicate n (pos 0)) (centred_string w p n a) (centred_string w p n b)

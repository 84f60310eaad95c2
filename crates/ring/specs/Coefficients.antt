-- What the functions of `poly` and `signed` ask and leave: polynomials by their lists of coefficients, modulo 2^16, which every
-- modulus of the scheme divides, and over the integers. Rests on Integers and Poly.
use Rattle.std.specs.Prelude.{◌≡◌, List, ℕ, ◌+◌, ◌*◌, ◌%◌, ◌^◌, ◌≤◌, ◌<◌, ℤ, pos, ◌-ℤ◌, length, get_or}
use Rattle.keccak.specs.Lists.{tabulate}
use Rattle.ring.specs.Integers.{centred, largest}
use Rattle.ring.specs.Poly.{plus, mul, of_nats, of_ints, residues}

-- Two factors and a sum of one length, which is a multiple of 4 up to 512.
pub record Factors (acc a b : List ℕ) : Type 0 where
  pub first : length a ≡ length acc
  pub second : length b ≡ length acc
  pub fours : length acc % 4 ≡ 0
  pub short : length acc ≤ 512

-- acc + a·b modulo 2^16.
abbrev pub with_product : List ℕ → List ℕ → List ℕ → List ℕ
with_product acc a b = residues 65536 (length acc) (plus (of_nats acc) (mul (length acc) (of_nats a) (of_nats b)))

-- a + b modulo 2^16.
abbrev pub added : List ℕ → List ℕ → List ℕ
added a b = residues 65536 (length a) (plus (of_nats a) (of_nats b))

-- Each value taken from c, modulo 2^16.
abbrev pub taken_from : ℕ → List ℕ → List ℕ
taken_from c xs = residues 65536 (length xs) (λ k. pos c -ℤ of_nats xs k)

-- Each value less p, modulo 2^16.
abbrev pub centred_words : ℕ → List ℕ → List ℕ
centred_words p xs = residues 65536 (length xs) (λ k. centred p (get_or xs k 0))

-- Each value less p.
abbrev pub centred_integers : ℕ → List ℕ → List ℤ
centred_integers p xs = tabulate (length xs) (λ k. centred p (get_or xs k 0))

-- Two factors and a sum of one length up to 512, so small that no sum of terms leaves 32 bits.
pub record Summable (acc a b : List ℤ) : Type 0 where
  pub first : length a ≡ length acc
  pub second : length b ≡ length acc
  pub short : length acc ≤ 512
  pub negatable : largest b < 32768
  pub small : largest acc + length acc * (largest a * largest b) < 2 ^ 31

-- acc + a·b over the integers.
abbrev pub with_signed_product : List ℤ → List ℤ → List ℤ → List ℤ
with_signed_product acc a b = tabulate (length acc) (plus (of_ints acc) (mul (length acc) (of_ints a) (of_ints b)))

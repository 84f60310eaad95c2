-- Decryption (01: opening): the coins found by rounding, and what remains of a ciphertext. Rests on Encrypt.
use Rattle.std.specs.Prelude.{Bool, true, cond, ◌&&◌, List, [], ◌∷◌, ℕ, ◌+◌, ◌/◌, ◌%◌, ◌*◌, eqb, ltb, pos, ◌+ℤ◌, ◌-ℤ◌}
use Rattle.keccak.specs.Lists.{tabulate}
use Rattle.keccak.specs.Strings.{xor_into}
use Rattle.bits.specs.Bits.{pack}
use Rattle.ring.specs.Integers.{residue}
use Rattle.ring.specs.Poly.{Poly, minus, dot, residues}
use Rattle.kindi.specs.declared.Params.{Params}
use Rattle.kindi.specs.Params.{modulus, width}
use Rattle.kindi.specs.Streams.{coefficient, secret, mask}
use Rattle.kindi.specs.Keys.{joined}
use Rattle.kindi.specs.Encrypt.{noiseless}

-- Polynomial j of a ciphertext: C_j, and D for the last one.
unfoldable pub cipher_part : Params → List ℕ → ℕ → Poly
cipher_part P ct j x = pos (coefficient P.k P.n ct j x)

-- V = D − sum of C_j·r_j.
unfoldable pub noisy_value : Params → List ℕ → List ℕ → Poly
noisy_value P γ ct = minus (cipher_part P ct P.l) (dot P.l P.n (cipher_part P ct) (secret P γ))

-- A bit of the coins from V in 0 to q − 1: (V + q/4) divided by q/2, rounded down, modulo 2.
abbrev pub rounded_bit : ℕ → ℕ → ℕ
rounded_bit q v = (v + q / 4) / (q / 2) % 2

-- The coins found by rounding, from coefficient 0 of V on.
unfoldable pub rounded_coins : Params → List ℕ → List ℕ → List ℕ
rounded_coins P γ ct = pack 1 (tabulate P.n (λ x. rounded_bit (modulus P) (residue (modulus P) (noisy_value P γ ct x))))

-- What remains of the ciphertext, e, with p added, modulo q.
unfoldable pub remainder : Params → List ℕ → List ℕ → List ℕ → ℕ → List ℕ
remainder P pk coins ct j =
    residues (modulus P) P.n (λ x. (cipher_part P ct j x -ℤ noiseless P pk coins j x) +ℤ pos P.p)

unfoldable pub remainders : Params → List ℕ → List ℕ → List ℕ → List ℕ
remainders P pk coins ct = joined (P.l + 1) (remainder P pk coins ct)

-- Every entry is below b.
unfoldable pub all_below : ℕ → List ℕ → Bool
all_below b [] = true
all_below b (x ∷ xs) = ltb x b && all_below b xs

-- Every e + p modulo q is at most 2p − 1.
abbrev pub errors_fit : ℕ → List ℕ → Bool
errors_fit p us = all_below (2 * p) us

-- The padded message that the remainders u have: u xor mask.
unfoldable pub unmasked : Params → List ℕ → List ℕ → List ℕ → List ℕ
unmasked P pk coins ct = xor_into (mask P coins) (pack (width P) (remainders P pk coins ct))

-- How a list ends: with zeros only, with the message before a last non-zero byte 01, or with another last non-zero byte.
pub data Ending : Type 0 where
  blank : Ending
  marked : List ℕ → Ending
  other : Ending

-- The ending with one byte more in front.
unfoldable pub after : ℕ → Ending → Ending
after b blank = cond (eqb b 0) blank (cond (eqb b 1) (marked []) other)
after b (marked message) = marked (b ∷ message)
after b other = other

unfoldable pub ending : List ℕ → Ending
ending [] = blank
ending (b ∷ bs) = after b (ending bs)

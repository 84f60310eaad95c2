-- What decryption finds before its outcome: V, the remainders, the padded message. Rests on the definitions of `kindi`.
use Rattle.std.specs.Prelude.{◌≡◌, Bool, List, ℕ, ◌+◌, ◌≤◌, pos, ◌-ℤ◌, length, take, drop}
use Rattle.keccak.specs.Lists.{tabulate}
use Rattle.keccak.specs.Strings.{xor_into}
use Rattle.bits.specs.Bits.{pack, low_bits}
use Rattle.ring.specs.Integers.{residue}
use Rattle.ring.specs.Poly.{Poly, minus, dot, parts, residues}
use Rattle.kindi.specs.declared.Params.{Params}
use Rattle.kindi.specs.Params.{WellFormed, modulus, width, secret_length, ciphertext_length, padded_length, low_length, decrypt_work}
use Rattle.kindi.specs.Streams.{small_in, mask}
use Rattle.kindi.specs.Keys.{joined, public_part}
use Rattle.kindi.specs.Encrypt.{noiseless}
use Rattle.kindi.specs.Decrypt.{cipher_part, rounded_bit, remainders, errors_fit}
use Rattle.vectors.specs.Vectors.{vector}

-- V = D − sum of C_j·r_j, for any r.
abbrev pub value_by : Params → List ℕ → (ℕ → Poly) → Poly
value_by P ct r = minus (cipher_part P ct P.l) (dot P.l P.n (cipher_part P ct) r)

-- The coins that V rounds to, where the secret vector is read off a string.
unfoldable pub coins_from : Params → List ℕ → List ℕ → List ℕ
coins_from P bytes ct =
    pack 1 (tabulate P.n (λ x. rounded_bit (modulus P) (residue (modulus P) (value_by P ct (small_in P bytes) x))))

-- p less ℓ + 1 sums, modulo q.
unfoldable pub remainders_from : Params → List ℕ → List ℕ
remainders_from P sums = joined (P.l + 1) (λ j. residues (modulus P) P.n (λ x. pos P.p -ℤ parts P.n sums j x))

-- The padded message that the remainders have, from the low bits of each.
unfoldable pub opened : Params → List ℕ → List ℕ → List ℕ → List ℕ
opened P pk coins ct = xor_into (mask P coins) (pack (width P) (low_bits (width P) (remainders P pk coins ct)))

-- What `sums_less_cipher` leaves: the ciphertext of the coins without its errors, less the ciphertext, and the mask in its place.
pub record SumsExit (P : Params) (pk ct coins work sums : List ℕ) : Type 0 where
  pub sums_are : sums ≡ vector (P.l + 1) P.n (λ j. minus (noiseless P pk coins j) (cipher_part P ct j))
  pub mask_is : take (padded_length P) (drop (low_length P) work) ≡ mask P coins

-- The arguments of `recover_coins` and of `open`.
pub record OpenRoom (P : Params) (sk ct coins work : List ℕ) : Type 0 where
  pub well : WellFormed P
  pub secret_long : length sk ≡ secret_length P
  pub cipher_long : length ct ≡ ciphertext_length P
  pub coins_long : length coins ≡ P.coins
  pub work_long : decrypt_work P ≤ length work

-- What `open` leaves with these coins: whether every error fits, and the padded message in the mask's place.
pub record OpenExit (P : Params) (sk ct coins : List ℕ) (fits : Bool) (work : List ℕ) : Type 0 where
  pub fits_is : fits ≡ errors_fit P.p (remainders P (public_part P sk) coins ct)
  pub padded_is : take (padded_length P) (drop (low_length P) work) ≡ opened P (public_part P sk) coins ct

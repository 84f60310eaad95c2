-- What the functions of `decryption` ask of their slices: lengths. Rests on the definitions of `kindi`.
use Rattle.std.specs.Prelude.{◌≡◌, List, ℕ, ◌+◌, ◌*◌, ◌≤◌, length}
use Rattle.kindi.specs.declared.Params.{Params}
use Rattle.kindi.specs.Params.{WellFormed, width, length_of, public_length, ciphertext_length, padded_length, decrypt_work}

-- A ciphertext, a secret vector, and room for a vector and two polynomials.
pub record ValueRoom (P : Params) (ct r f d v : List ℕ) : Type 0 where
  pub well : WellFormed P
  pub cipher_long : length ct ≡ ciphertext_length P
  pub secret_long : length r ≡ P.l * P.n
  pub vector_long : length f ≡ P.l * P.n
  pub value_long : length d ≡ P.n
  pub sum : length v ≡ P.n

-- The same with a string that begins with the secret vector, and coins.
pub record CoinsRoom (P : Params) (bytes ct r f d v coins : List ℕ) : Type 0 where
  pub room : ValueRoom P ct r f d v
  pub secret_there : length_of P P.l (width P) ≤ length bytes
  pub coins_long : length coins ≡ P.coins

-- A ciphertext, coins, and a work area.
pub record RecoverRoom (P : Params) (ct coins work : List ℕ) : Type 0 where
  pub well : WellFormed P
  pub cipher_long : length ct ≡ ciphertext_length P
  pub coins_long : length coins ≡ P.coins
  pub work_long : decrypt_work P ≤ length work

-- ℓ + 1 sums, and room for the packed remainders.
pub record RemaindersRoom (P : Params) (sums dst : List ℕ) : Type 0 where
  pub well : WellFormed P
  pub sums_long : length sums ≡ (P.l + 1) * P.n
  pub packed_long : length dst ≡ padded_length P

-- ℓ + 1 sums, and a work area.
pub record UnmaskRoom (P : Params) (sums work : List ℕ) : Type 0 where
  pub well : WellFormed P
  pub sums_long : length sums ≡ (P.l + 1) * P.n
  pub work_long : decrypt_work P ≤ length work

-- A public key, a ciphertext, coins, a work area, room for s, and for ℓ + 1 sums.
pub record SumsRoom (P : Params) (pk ct coins work s sums : List ℕ) : Type 0 where
  pub well : WellFormed P
  pub public_long : length pk ≡ public_length P
  pub cipher_long : length ct ≡ ciphertext_length P
  pub coins_long : length coins ≡ P.coins
  pub work_long : decrypt_work P ≤ length work
  pub secret_long : length s ≡ P.l * P.n
  pub sums_long : length sums ≡ (P.l + 1) * P.n

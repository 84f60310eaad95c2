-- What the functions of `encryption` ask of their slices: lengths, and the stream of the coins. Rests on the definitions of `kindi`.
use Rattle.std.specs.Prelude.{◌≡◌, List, ℕ, ◌+◌, ◌*◌, ◌≤◌, ◌<◌, length, take}
use Rattle.kindi.specs.declared.Params.{Params}
use Rattle.kindi.specs.Params.{WellFormed, public_length, ciphertext_length, padded_length, coins_stream_length, polynomial_length, encrypt_work}
use Rattle.cipher_terms.specs.Inputs.{StreamOf}

-- A public key, coins, a work area that begins with their stream and has room for a polynomial of A from a place on, room for s,
-- and ℓ + 1 sums.
pub record NoiselessRoom (P : Params) (pk coins : List ℕ) (at : ℕ) (work s sums : List ℕ) : Type 0 where
  pub well : WellFormed P
  pub public_long : length pk ≡ public_length P
  pub coins_long : length coins ≡ P.coins
  pub stream_fits : coins_stream_length P ≤ length work
  pub stream : StreamOf P coins (take (coins_stream_length P) work)
  pub polynomial_fits : at + polynomial_length P ≤ length work
  pub secret_long : length s ≡ P.l * P.n
  pub sums_long : length sums ≡ (P.l + 1) * P.n

-- A message, room for ℓ + 1 polynomials, and a work area that has room for the stream of the coins.
pub record ErrorsRoom (P : Params) (message errors work : List ℕ) : Type 0 where
  pub well : WellFormed P
  pub message_fits : length message < padded_length P
  pub errors_long : length errors ≡ (P.l + 1) * P.n
  pub stream_fits : coins_stream_length P ≤ length work

-- The arguments of encryption.
pub record EncryptRoom (P : Params) (pk coins message ct work : List ℕ) : Type 0 where
  pub well : WellFormed P
  pub public_long : length pk ≡ public_length P
  pub coins_long : length coins ≡ P.coins
  pub message_fits : length message < padded_length P
  pub cipher_long : length ct ≡ ciphertext_length P
  pub work_long : encrypt_work P ≤ length work

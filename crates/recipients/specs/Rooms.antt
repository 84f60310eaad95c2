-- What the inner function of encrypt_each asks of its slices: lengths. Rests on the definitions of `kindi`.
use Rattle.std.specs.Prelude.{◌≡◌, List, ℕ, ◌*◌, ◌≤◌, ◌<◌, length}
use Rattle.kindi.specs.declared.Params.{Params}
use Rattle.kindi.specs.Params.{WellFormed, public_length, ciphertext_length, padded_length, encrypt_work}

-- The keys, the coins and the ciphertexts of `count` recipients.
pub record PartsRoom (P : Params) (count : ℕ) (keys list message cts work : List ℕ) : Type 0 where
  pub well : WellFormed P
  pub keys_long : length keys ≡ count * public_length P
  pub coins_long : length list ≡ count * P.coins
  pub message_fits : length message < padded_length P
  pub ciphers_long : length cts ≡ count * ciphertext_length P
  pub work_long : encrypt_work P ≤ length work

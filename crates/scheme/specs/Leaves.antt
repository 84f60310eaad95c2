-- What a caller has after a call: the returned number and what the outputs hold. Each record says that a call of these inputs was
-- made, with outputs of the stated lengths and a work area that is long enough, whatever stood in them, and what it left. Rests on
-- the exit records that the contracts of `src/lib.rt` promise.
use Rattle.std.specs.Prelude.{◌≡◌, List, ℕ, ◌-◌, ◌*◌, ◌≤◌, length}
use Rattle.kindi.specs.Params.{of_set, public_length, secret_length, ciphertext_length, padded_length, keygen_work, encrypt_work, decrypt_work, noise_work}
use Rattle.kindi.specs.Calls.{message_output}
use Rattle.encryption_calls.specs.Exits.{KeygenExit, EncryptExit, EncapsExit}
use Rattle.recipients.specs.Exits.{EncryptEachExit}
use Rattle.decryption_calls.specs.Exits.{DecryptExit, DecapsExit}
use Rattle.noise_calls.specs.Exits.{NoiseExit}

-- keygen left a status and two keys.
pub record KeygenLeaves (set : ℕ) (μ γ z : List ℕ) (status : ℕ) (pk' sk' : List ℕ) : Type 0 where
  pub pk : List ℕ
  pub sk : List ℕ
  pub work : List ℕ
  pub work' : List ℕ
  pub public_long : length pk ≡ public_length (of_set set)
  pub secret_long : length sk ≡ secret_length (of_set set)
  pub work_long : keygen_work (of_set set) ≤ length work
  pub exit : KeygenExit set μ γ z pk sk work status pk' sk' work'

-- encrypt left a status and a ciphertext.
pub record EncryptLeaves (set : ℕ) (pk coins message : List ℕ) (status : ℕ) (ct' : List ℕ) : Type 0 where
  pub ct : List ℕ
  pub work : List ℕ
  pub work' : List ℕ
  pub cipher_long : length ct ≡ ciphertext_length (of_set set)
  pub work_long : encrypt_work (of_set set) ≤ length work
  pub exit : EncryptExit set pk coins message ct work status ct' work'

-- encrypt_each left a status and ciphertexts.
pub record EncryptEachLeaves (set count : ℕ) (keys list message : List ℕ) (status : ℕ) (cts' : List ℕ) : Type 0 where
  pub cts : List ℕ
  pub work : List ℕ
  pub work' : List ℕ
  pub ciphers_long : length cts ≡ count * ciphertext_length (of_set set)
  pub work_long : encrypt_work (of_set set) ≤ length work
  pub exit : EncryptEachExit set count keys list message cts work status cts' work'

-- encaps left a status, a shared key and a ciphertext.
pub record EncapsLeaves (set : ℕ) (pk coins : List ℕ) (status : ℕ) (key' ct' : List ℕ) : Type 0 where
  pub key : List ℕ
  pub ct : List ℕ
  pub work : List ℕ
  pub work' : List ℕ
  pub key_long : length key ≡ (of_set set).coins
  pub cipher_long : length ct ≡ ciphertext_length (of_set set)
  pub work_long : encrypt_work (of_set set) ≤ length work
  pub exit : EncapsExit set pk coins key ct work status key' ct' work'

-- decrypt left a status, coins, a message output and a length.
pub record DecryptLeaves (set : ℕ) (sk ct : List ℕ) (status : ℕ) (coins' message' : List ℕ) (len' : ℕ) : Type 0 where
  pub coins : List ℕ
  pub message : List ℕ
  pub work : List ℕ
  pub work' : List ℕ
  pub coins_long : length coins ≡ (of_set set).coins
  pub message_long : length message ≡ padded_length (of_set set) - 1
  pub work_long : decrypt_work (of_set set) ≤ length work
  pub exit : DecryptExit set sk ct coins message work status coins' message' len' work'

-- decaps left a status and a shared key.
pub record DecapsLeaves (set : ℕ) (sk ct : List ℕ) (status : ℕ) (key' : List ℕ) : Type 0 where
  pub key : List ℕ
  pub work : List ℕ
  pub work' : List ℕ
  pub key_long : length key ≡ (of_set set).coins
  pub work_long : decrypt_work (of_set set) ≤ length work
  pub exit : DecapsExit set sk ct key work status key' work'

-- noise left a status, a flag and a largest value.
pub record NoiseLeaves (set : ℕ) (sk coins message : List ℕ) (status clear' largest' : ℕ) : Type 0 where
  pub work : List ℕ
  pub work' : List ℕ
  pub work_long : noise_work (of_set set) ≤ length work
  pub exit : NoiseExit set sk coins message work status clear' largest' work'

-- What decrypt left is 0, exactly these coins, this message followed by zeros, and its length.
pub record IsPair (set : ℕ) (coins message : List ℕ) (status : ℕ) (coins' message' : List ℕ) (len' : ℕ) : Type 0 where
  pub success : status ≡ 0
  pub coins_are : coins' ≡ coins
  pub message_is : message' ≡ message_output (padded_length (of_set set) - 1) message
  pub length_is : len' ≡ length message

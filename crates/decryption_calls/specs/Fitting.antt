-- Decryption and decapsulation where every length fits, and what their inner functions ask and leave. Rests on the definitions
-- of `kindi`.
use Rattle.std.specs.Prelude.{◌≡◌, Bool, true, cond, not, ◌&&◌, List, [], ◌∷◌, ℕ, ◌-◌, eqb, length, take}
use Rattle.kindi.specs.declared.Params.{Params}
use Rattle.kindi.specs.Params.{padded_length}
use Rattle.kindi.specs.Keys.{public_part, secret_seed}
use Rattle.kindi.specs.Encrypt.{padded}
use Rattle.kindi.specs.Decrypt.{rounded_coins, remainders, errors_fit, unmasked, Ending, blank, marked, other, ending}
use Rattle.kindi.specs.Kem.{digest, shared_key}
use Rattle.kindi.specs.Answers.{Answer, answered, refuse_if, plain, same, Plain}
use Rattle.kindi.specs.Calls.{number, output, returned, message_output}
use Rattle.decryption.specs.Opened.{OpenRoom}

-- decrypt after its checks of lengths: refusals 5 and 6.
unfoldable pub decrypt_fitting : Params → List ℕ → List ℕ → Answer Plain
decrypt_fitting P sk ct =
    let coins = rounded_coins P (secret_seed P sk) ct in
    refuse_if (not (errors_fit P.p (remainders P (public_part P sk) coins ct))) 5
    (plain coins (ending (unmasked P (public_part P sk) coins ct)))

-- decaps after its checks of lengths: refusals 5 and 7.
unfoldable pub decaps_fitting : Params → List ℕ → List ℕ → Answer (List ℕ)
decaps_fitting P sk ct =
    let coins = rounded_coins P (secret_seed P sk) ct in
    refuse_if (not (errors_fit P.p (remainders P (public_part P sk) coins ct))) 5
    (refuse_if (not (same (unmasked P (public_part P sk) coins ct) (padded P (digest P coins)))) 7
    (answered (shared_key P coins ct)))

-- The ending of a list whose last non-zero byte is `mark`, at place `len`; `mark` is 0 where there is none.
unfoldable pub ending_of : List ℕ → ℕ → ℕ → Ending
ending_of xs mark len = cond (eqb mark 0) blank (cond (eqb mark 1) (marked (take len xs)) other)

-- Every byte is 0.
unfoldable pub all_zero : List ℕ → Bool
all_zero [] = true
all_zero (x ∷ xs) = eqb x 0 && all_zero xs

-- The arguments of decryption, and room for the coins that are found.
pub record MessageRoom (P : Params) (sk ct found coins message work : List ℕ) : Type 0 where
  pub room : OpenRoom P sk ct found work
  pub coins_long : length coins ≡ P.coins
  pub message_long : length message ≡ padded_length P - 1

-- What decryption leaves of its outputs.
pub record MessageExit (answer : Answer Plain) (coins message : List ℕ) (status : ℕ) (coins' message' : List ℕ) (len' : ℕ) : Type 0 where
  pub number_is : status ≡ number answer
  pub coins_are : coins' ≡ output answer (λ opened. opened.coins) coins
  pub message_is : message' ≡ output answer (λ opened. message_output (length message) opened.message) message
  pub length_is : len' ≡ returned answer (λ opened. length opened.message)

-- The arguments of decapsulation, and room for the coins that are found and their digest.
pub record KeyRoom (P : Params) (sk ct found d key work : List ℕ) : Type 0 where
  pub room : OpenRoom P sk ct found work
  pub digest_long : length d ≡ P.coins
  pub key_long : length key ≡ P.coins

-- What decapsulation leaves of its output.
pub record KeyExit (answer : Answer (List ℕ)) (key : List ℕ) (status : ℕ) (key' : List ℕ) : Type 0 where
  pub number_is : status ≡ number answer
  pub key_is : key' ≡ output answer (λ k. k) key

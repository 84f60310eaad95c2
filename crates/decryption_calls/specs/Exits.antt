-- What decrypt and decaps leave, for arguments of every content and length: the returned number, each output, the returned
-- length and the work area at exit, equated with what the call's answer gives. A primed name is at exit. Rests on the
-- definitions of `kindi`.
use Rattle.std.specs.Prelude.{◌≡◌, List, ℕ, length}
use Rattle.kindi.specs.Params.{of_set, decrypt_work}
use Rattle.kindi.specs.Calls.{number, output, returned, work_after, message_output, decrypt_call, decaps_call}

-- decrypt.
pub record DecryptExit (set : ℕ) (sk ct coins message work : List ℕ) (status : ℕ) (coins' message' : List ℕ) (len' : ℕ) (work' : List ℕ) : Type 0 where
  pub number_is : status ≡ number (decrypt_call set sk ct (length coins) (length message) (length work))
  pub coins_are : coins' ≡ output (decrypt_call set sk ct (length coins) (length message) (length work)) (λ opened. opened.coins) coins
  pub message_is : message' ≡ output (decrypt_call set sk ct (length coins) (length message) (length work))
      (λ opened. message_output (length message) opened.message) message
  pub length_is : len' ≡ returned (decrypt_call set sk ct (length coins) (length message) (length work)) (λ opened. length opened.message)
  pub wiped : work' ≡ work_after set (decrypt_work (of_set set)) work

-- decaps.
pub record DecapsExit (set : ℕ) (sk ct key work : List ℕ) (status : ℕ) (key' work' : List ℕ) : Type 0 where
  pub number_is : status ≡ number (decaps_call set sk ct (length key) (length work))
  pub key_is : key' ≡ output (decaps_call set sk ct (length key) (length work)) (λ k. k) key
  pub wiped : work' ≡ work_after set (decrypt_work (of_set set)) work

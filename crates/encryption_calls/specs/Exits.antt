-- What each call leaves, for arguments of every content and length: the returned number, each output and the work
-- area at exit, equated with what the call's answer gives. A primed name is a buffer at exit. Rests on the definitions of
-- `kindi`.
use Rattle.std.specs.Prelude.{◌≡◌, List, ℕ, length}
use Rattle.kindi.specs.Params.{of_set, keygen_work, encrypt_work}
use Rattle.kindi.specs.Calls.{number, output, work_after, keygen_call, encrypt_call, encaps_call}

-- keygen.
pub record KeygenExit (set : ℕ) (μ γ z pk sk work : List ℕ) (status : ℕ) (pk' sk' work' : List ℕ) : Type 0 where
  pub returned : status ≡ number (keygen_call set μ γ z (length pk) (length sk) (length work))
  pub public : pk' ≡ output (keygen_call set μ γ z (length pk) (length sk) (length work)) (λ keys. keys.public_key) pk
  pub secret : sk' ≡ output (keygen_call set μ γ z (length pk) (length sk) (length work)) (λ keys. keys.secret_key) sk
  pub wiped : work' ≡ work_after set (keygen_work (of_set set)) work

-- encrypt.
pub record EncryptExit (set : ℕ) (pk coins message ct work : List ℕ) (status : ℕ) (ct' work' : List ℕ) : Type 0 where
  pub returned : status ≡ number (encrypt_call set pk coins message (length ct) (length work))
  pub ciphertext : ct' ≡ output (encrypt_call set pk coins message (length ct) (length work)) (λ c. c) ct
  pub wiped : work' ≡ work_after set (encrypt_work (of_set set)) work

-- encaps.
pub record EncapsExit (set : ℕ) (pk coins key ct work : List ℕ) (status : ℕ) (key' ct' work' : List ℕ) : Type 0 where
  pub returned : status ≡ number (encaps_call set pk coins (length key) (length ct) (length work))
  pub key_is : key' ≡ output (encaps_call set pk coins (length key) (length ct) (length work)) (λ shared. shared.key) key
  pub ciphertext : ct' ≡ output (encaps_call set pk coins (length key) (length ct) (length work)) (λ shared. shared.ciphertext) ct
  pub wiped : work' ≡ work_after set (encrypt_work (of_set set)) work

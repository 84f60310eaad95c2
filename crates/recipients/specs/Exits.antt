-- What encrypt_each leaves, for arguments of every content and length: the returned number, the ciphertexts and the work area at
-- exit, equated with what the call's answer gives. A primed name is a buffer at exit. Rests on the definitions of `kindi`.
use Rattle.std.specs.Prelude.{◌≡◌, List, ℕ, length}
use Rattle.kindi.specs.Params.{of_set, encrypt_work}
use Rattle.kindi.specs.Calls.{number, output, work_after, encrypt_each_call}

pub record EncryptEachExit (set count : ℕ) (keys list message cts work : List ℕ) (status : ℕ) (cts' work' : List ℕ) : Type 0 where
  pub returned : status ≡ number (encrypt_each_call set count keys list message (length cts) (length work))
  pub ciphertexts : cts' ≡ output (encrypt_each_call set count keys list message (length cts) (length work)) (λ c. c) cts
  pub wiped : work' ≡ work_after set (encrypt_work (of_set set)) work

-- What the SHAKE calls leave, for arguments of every content and length: the returned number and the output at exit, equated
-- with what the answer gives. The primed name is the output at exit. Rests on the definitions of `kindi`.
use Rattle.std.specs.Prelude.{◌≡◌, List, ℕ, length}
use Rattle.kindi.specs.Answers.{shake_bytes}
use Rattle.kindi.specs.Calls.{number, output}

-- SHAKE at a rate in bytes: 168 for SHAKE128, 136 for SHAKE256.
pub record ShakeExit (rate : ℕ) (input : List ℕ) (place : ℕ) (out : List ℕ) (status : ℕ) (out' : List ℕ) : Type 0 where
  pub returned : status ≡ number (shake_bytes rate input place (length out))
  pub bytes : out' ≡ output (shake_bytes rate input place (length out)) (λ b. b) out

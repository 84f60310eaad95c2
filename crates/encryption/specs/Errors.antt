-- What `read_errors` leaves. Rests on the definitions of `kindi`.
use Rattle.std.specs.Prelude.{◌≡◌, List, ℕ, ◌+◌, take}
use Rattle.kindi.specs.declared.Params.{Params}
use Rattle.kindi.specs.Params.{coins_stream_length}
use Rattle.kindi.specs.Encrypt.{error}
use Rattle.vectors.specs.Vectors.{vector}
use Rattle.cipher_terms.specs.Inputs.{StreamOf}

-- The errors, and a work area that begins with the stream of the coins but for the mask's place.
pub record ErrorsExit (P : Params) (coins message errors' work' : List ℕ) : Type 0 where
  pub errors_are : errors' ≡ vector (P.l + 1) P.n (error P coins message)
  pub stream : StreamOf P coins (take (coins_stream_length P) work')

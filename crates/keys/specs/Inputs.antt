-- What the functions of `keys` ask of their slices: lengths. Rests on the definitions of `kindi`.
use Rattle.std.specs.Prelude.{◌≡◌, List, ℕ, ◌+◌, ◌-◌, ◌*◌, ◌≤◌, ◌<◌, length}
use Rattle.kindi.specs.declared.Params.{Params}
use Rattle.kindi.specs.Params.{WellFormed, length_of, public_length, secret_length, polynomial_length, secrets_length, keygen_work}

-- The stream of γ, and room for r and for r'.
pub record SecretsRoom (P : Params) (stream r sums : List ℕ) : Type 0 where
  pub well : WellFormed P
  pub stream_long : length stream ≡ secrets_length P
  pub secret_long : length r ≡ P.l * P.n
  pub sums_long : length sums ≡ P.l * P.n

-- A work area for the stream of γ and, from a place in it on, for a polynomial of A.
pub record StreamRoom (P : Params) (at : ℕ) (work : List ℕ) : Type 0 where
  pub well : WellFormed P
  pub within : at ≤ secrets_length P
  pub secrets_fit : secrets_length P ≤ length work
  pub polynomial_fits : at + polynomial_length P ≤ length work

-- Such a work area, room for a polynomial, for r and for b.
pub record VectorRoom (P : Params) (at : ℕ) (work a r sums : List ℕ) : Type 0 where
  pub stream : StreamRoom P at work
  pub list_long : length a ≡ P.n
  pub secret_long : length r ≡ P.l * P.n
  pub sums_long : length sums ≡ P.l * P.n

-- A vector, and room for it without the low t bits of each coefficient.
pub record StoredRoom (P : Params) (t : ℕ) (sums dst : List ℕ) : Type 0 where
  pub well : WellFormed P
  pub sums_long : length sums ≡ P.l * P.n
  pub some_kept : t < P.k
  pub stored_long : length dst ≡ length_of P P.l (P.k - t)

-- A work area, and room for the polynomials of b without their low t bits.
pub record PublicRoom (P : Params) (t at : ℕ) (work dst : List ℕ) : Type 0 where
  pub stream : StreamRoom P at work
  pub some_kept : t < P.k
  pub stored_long : length dst ≡ length_of P P.l (P.k - t)

-- The arguments of keygen.
pub record KeygenRoom (P : Params) (μ γ z pk sk work : List ℕ) : Type 0 where
  pub well : WellFormed P
  pub μ_long : length μ ≡ P.seed
  pub γ_long : length γ ≡ P.seed
  pub z_long : length z ≡ P.seed
  pub public_long : length pk ≡ public_length P
  pub secret_long : length sk ≡ secret_length P
  pub work_long : keygen_work P ≤ length work

-- What `add_noiseless` leaves: sums with a ciphertext without its errors added. Rests on the definitions of `kindi`.
use Rattle.std.specs.Prelude.{◌≡◌, List, ℕ, ◌+◌, take}
use Rattle.ring.specs.Poly.{plus, parts}
use Rattle.kindi.specs.declared.Params.{Params}
use Rattle.kindi.specs.Encrypt.{noiseless}
use Rattle.vectors.specs.Vectors.{vector}

-- Each of ℓ + 1 sums with its polynomial of the ciphertext, without errors, added; the first bytes of the work area, up to the
-- place of A's polynomials, as they were.
pub record NoiselessExit (P : Params) (pk coins : List ℕ) (at : ℕ) (work sums work' sums' : List ℕ) : Type 0 where
  pub sums_are : sums' ≡ vector (P.l + 1) P.n (λ j. plus (noiseless P pk coins j) (parts P.n sums j))
  pub kept : take at work' ≡ take at work

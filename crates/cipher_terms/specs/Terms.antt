-- What `add_products` and `add_public` leave. Rests on the definitions of `kindi`.
use Rattle.std.specs.Prelude.{◌≡◌, List, ℕ}
use Rattle.ring.specs.Poly.{plus, dot, parts, of_nats, residues}
use Rattle.kindi.specs.declared.Params.{Params}
use Rattle.kindi.specs.Streams.{low_in, ephemeral}
use Rattle.kindi.specs.Encrypt.{decompressed_by, noiseless}
use Rattle.vectors.specs.Vectors.{vector}

-- A sum with the first i products of P with a vector added, modulo 2^16.
unfoldable pub with_products : Params → List ℕ → List ℕ → List ℕ → ℕ → List ℕ → List ℕ
with_products P pk low s i d =
    residues 65536 P.n (plus (dot i P.n (decompressed_by P pk (low_in P low)) (parts P.n s)) (of_nats d))

-- s, and a sum with D, without its errors, added.
pub record TermsExit (P : Params) (pk coins d s' d' : List ℕ) : Type 0 where
  pub secret_is : s' ≡ vector P.l P.n (ephemeral P coins)
  pub sum_is : d' ≡ residues 65536 P.n (plus (noiseless P pk coins P.l) (of_nats d))

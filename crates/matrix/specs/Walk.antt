-- What the inner functions of `matrix` ask and leave. Rests on hash's sponge and the definitions of `kindi`.
use Rattle.std.specs.Prelude.{◌≡◌, Bool, cond, List, ℕ, ◌+◌, ◌*◌, ◌≤◌, ◌<◌, ◌+ℤ◌, length}
use Rattle.hash.specs.Stream.{Sound, fresh, absorbed, finished, squeezed, advanced}
use Rattle.hash.specs.declared.sponge.Sponge.{Sponge}
use Rattle.bits.specs.Bits.{Below, unpack}
use Rattle.ring.specs.Integers.{Cong}
use Rattle.ring.specs.Poly.{mul, of_nats, parts}
use Rattle.kindi.specs.declared.Params.{Params}
use Rattle.kindi.specs.Params.{WellFormed, length_of, polynomial_length}
use Rattle.matrix.specs.Product.{ProductRoom}

-- The stream of μ after m polynomials.
unfoldable pub stream_at : Params → List ℕ → ℕ → Sponge
stream_at P μ m = advanced (finished (absorbed (fresh P.rate) μ)) (length_of P m P.k)

-- A stream, room for a polynomial's bytes and for its coefficients.
pub record FetchRoom (P : Params) (s : Sponge) (bytes a : List ℕ) : Type 0 where
  pub well : WellFormed P
  pub sound : Sound s
  pub bytes_long : length bytes ≡ polynomial_length P
  pub list_long : length a ≡ P.n

-- The next polynomial is read, and the stream has gone on by it.
pub record Fetched (P : Params) (s s' : Sponge) (a : List ℕ) : Type 0 where
  pub stream : s' ≡ advanced s (polynomial_length P)
  pub list : a ≡ unpack P.k P.n (squeezed s (polynomial_length P))

-- A factor of n coefficients, a vector with polynomial `from`, and sums with polynomial `to`.
pub record TermRoom (n from to : ℕ) (a v sums : List ℕ) : Type 0 where
  pub short : n ≤ 512
  pub factor_long : length a ≡ n
  pub from_there : from * n + n ≤ length v
  pub vector_short : length v ≤ 4096
  pub to_there : to * n + n ≤ length sums
  pub sums_short : length sums ≤ 4096

-- a·v_from is added to sum `to`, modulo 2^16; the others are as they were.
pub record Added (n from to : ℕ) (a v sums sums' : List ℕ) : Type 0 where
  pub there : (x : ℕ) → x < n → Cong 65536 (parts n sums' to x) (parts n sums to x +ℤ mul n (of_nats a) (parts n v from) x)
  pub others : (b x : ℕ) → x < n → (b ≡ to → ⊥) → parts n sums' b x ≡ parts n sums b x
  pub words : Below 65536 sums → Below 65536 sums'

-- A stream and the place of its next polynomial, in row i and column j.
pub record StepRoom (P : Params) (s : Sponge) (i j : ℕ) (v bytes a sums : List ℕ) : Type 0 where
  pub room : ProductRoom P v bytes a sums
  pub sound : Sound s
  pub row : i < P.l
  pub column : j < P.l

-- The next polynomial times its part of v is added to its sum: by columns A_ij·v_i to sum j, by rows A_ij·v_j to sum i.
pub record Stepped (P : Params) (s : Sponge) (columns : Bool) (i j : ℕ) (v sums : List ℕ) (s' : Sponge) (sums' : List ℕ) : Type 0 where
  pub stream : s' ≡ advanced s (polynomial_length P)
  pub added : Added P.n (cond columns i j) (cond columns j i) (unpack P.k P.n (squeezed s (polynomial_length P))) v sums sums'

-- What `add_product` asks and leaves: products of the matrix A with a vector, modulo 2^16. Rests on the definitions of `kindi` and
-- of `vectors`.
use Rattle.std.specs.Prelude.{◌≡◌, Bool, cond, List, ℕ, ◌*◌, length}
use Rattle.ring.specs.Poly.{Poly, plus, dot, transposed, parts}
use Rattle.kindi.specs.declared.Params.{Params}
use Rattle.kindi.specs.Params.{WellFormed, polynomial_length}
use Rattle.kindi.specs.Streams.{matrix}
use Rattle.vectors.specs.Vectors.{vector}

-- The matrix by its columns, or by its rows.
abbrev pub oriented : Bool → (ℕ → ℕ → Poly) → ℕ → ℕ → Poly
oriented columns A = cond columns (transposed A) A

-- To each of ℓ sums the products of a column of A, or of a row, with the vector are added.
unfoldable pub with_matrix : Params → List ℕ → Bool → List ℕ → List ℕ → List ℕ
with_matrix P μ columns v sums =
    vector P.l P.n (λ a. plus (dot P.l P.n (oriented columns (matrix P μ) a) (parts P.n v)) (parts P.n sums a))

-- A vector, room for the bytes and for the coefficients of one polynomial of A, and the sums.
pub record ProductRoom (P : Params) (v bytes a sums : List ℕ) : Type 0 where
  pub well : WellFormed P
  pub vector_long : length v ≡ P.l * P.n
  pub bytes_long : length bytes ≡ polynomial_length P
  pub list_long : length a ≡ P.n
  pub sums_long : length sums ≡ P.l * P.n

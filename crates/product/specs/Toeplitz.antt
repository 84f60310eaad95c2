-- Products of Toeplitz matrices with vectors, of which a product of polynomials is one, modulo 2^16. Rests on ring's Poly.
use Rattle.std.specs.Prelude.{◌≡◌, List, ℕ, ◌+◌, ◌-◌, ◌*◌, ◌*ℤ◌, length}
use Rattle.ring.specs.Poly.{Poly, sum, plus, of_nats, residues}

-- Entry k of the product with v of the matrix of n rows that has r_(n−i+k) in row k, column i.
unfoldable pub toeplitz : ℕ → Poly → Poly → Poly
toeplitz n r v k = sum n (λ i. v i *ℤ r (n - i + k))

-- acc plus the product with v of the matrix that row holds, modulo 2^16.
unfoldable pub with_toeplitz : List ℕ → List ℕ → List ℕ → List ℕ
with_toeplitz acc row v = residues 65536 (length acc) (plus (of_nats acc) (toeplitz (length acc) (of_nats row) (of_nats v)))

-- A sum, a matrix and a vector of n entries.
pub record Matrix (n : ℕ) (acc row v : List ℕ) : Type 0 where
  pub sum_long : length acc ≡ n
  pub row_long : length row ≡ 2 * n
  pub vector_long : length v ≡ n

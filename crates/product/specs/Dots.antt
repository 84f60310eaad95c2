-- What `dot_add` asks and leaves: vectors of polynomials by their lists of coefficients, modulo 2^16. Rests on ring's Poly.
use Rattle.std.specs.Prelude.{◌≡◌, List, ℕ, ◌*◌, ◌≤◌, length}
use Rattle.ring.specs.Poly.{plus, dot, of_nats, residues, parts}

-- Two factors and a sum of one length up to 512.
pub record Factors (acc a b : List ℕ) : Type 0 where
  pub first : length a ≡ length acc
  pub second : length b ≡ length acc
  pub short : length acc ≤ 512

-- Two vectors of m polynomials, one after another, and a sum, of a length that products take.
pub record Vectors (m : ℕ) (acc f s : List ℕ) : Type 0 where
  pub first : length f ≡ m * length acc
  pub second : length s ≡ m * length acc
  pub short : length acc ≤ 512
  pub few : m ≤ 8

-- acc plus the sum of the first m products f_i·s_i, modulo 2^16.
unfoldable pub with_dot : ℕ → List ℕ → List ℕ → List ℕ → List ℕ
with_dot m acc f s = residues 65536 (length acc) (plus (of_nats acc) (dot m (length acc) (parts (length acc) f) (parts (length acc) s)))

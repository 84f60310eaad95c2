-- What the functions of `halves` leave of a vector and of a matrix's row, modulo 2^16. Rests on ring's Poly.
use Rattle.std.specs.Prelude.{List, ℕ, ◌+◌}
use Rattle.ring.specs.Poly.{plus, minus, of_nats, residues}

-- The sum of the first h entries with the next.
unfoldable pub folded : ℕ → List ℕ → List ℕ
folded h v = residues 65536 h (plus (of_nats v) (λ k. of_nats v (h + k)))

-- n entries from place a on, less as many from place b on.
unfoldable pub row_difference : ℕ → ℕ → ℕ → List ℕ → List ℕ
row_difference a b n row = residues 65536 n (minus (λ k. of_nats row (a + k)) (λ k. of_nats row (b + k)))

-- Vectors of polynomials as the code holds them: one after another, coefficients modulo 2^16, of which every modulus q is a
-- divisor. Rests on the definitions of `kindi` and of `ring`.
use Rattle.std.specs.Prelude.{List, ℕ, ◌+◌, ◌*◌, ◌%◌, ◌^◌, pos, length, get_or, set}
use Rattle.ring.specs.Poly.{Poly, residues}
use Rattle.kindi.specs.Keys.{joined}

-- A vector of m polynomials of n coefficients, listed.
unfoldable pub vector : ℕ → ℕ → (ℕ → Poly) → List ℕ
vector m n f = joined m (λ i. residues 65536 n (f i))

-- Each coefficient times 2^t, modulo 2^16.
abbrev pub raised : ℕ → List ℕ → List ℕ
raised t xs = residues 65536 (length xs) (λ k. pos (2 ^ t * get_or xs k 0))

-- The first coefficient with c added, modulo 2^16.
abbrev pub with_constant : ℕ → List ℕ → List ℕ
with_constant c xs = set xs 0 ((get_or xs 0 0 + c) % 65536)

-- Polynomials with integer coefficients modulo X^n + 1, vectors and matrices of them. Rests on lib.IntN's ℤ.
use Rattle.std.specs.Prelude.{cond, List, ℕ, zero, suc, ◌+◌, ◌-◌, ◌*◌, leb, eqb, ℤ, pos, neg_ℤ, ◌+ℤ◌, ◌-ℤ◌, ◌*ℤ◌, get_or}
use Rattle.keccak.specs.Lists.{tabulate}
use Rattle.ring.specs.Integers.{residue}

-- A polynomial modulo X^n + 1 is its coefficients 0 to n − 1; what the family gives from n on is not read.
abbrev pub Poly : Type 0
Poly = ℕ → ℤ

-- f 0 + … + f (n − 1).
unfoldable pub sum : ℕ → (ℕ → ℤ) → ℤ
sum zero f = pos 0
sum (suc n) f = sum n f +ℤ f n

-- Coefficient k of X^i times b, where X^n is −1.
unfoldable pub shifted : ℕ → Poly → ℕ → Poly
shifted n b i k = cond (leb i k) (b (k - i)) (neg_ℤ (b (n + k - i)))

-- The product, the sum of a_i times X^i b. The law `mul_read`: coefficient k is the sum over i ≤ k of a_i b_(k−i) less the sum
-- over i > k of a_i b_(n+k−i).
unfoldable pub mul : ℕ → Poly → Poly → Poly
mul n a b k = sum n (λ i. a i *ℤ shifted n b i k)

-- The polynomial 1.
unfoldable pub unit : Poly
unit k = cond (eqb k 0) (pos 1) (pos 0)

-- Sum and difference, coefficient by coefficient.
abbrev pub plus : Poly → Poly → Poly
plus a b k = a k +ℤ b k

abbrev pub minus : Poly → Poly → Poly
minus a b k = a k -ℤ b k

-- The sum of the products of two vectors of ℓ polynomials.
unfoldable pub dot : ℕ → ℕ → (ℕ → Poly) → (ℕ → Poly) → Poly
dot ℓ n u v k = sum ℓ (λ i. mul n (u i) (v i) k)

-- An ℓ × ℓ matrix times a vector, and the transposed matrix.
abbrev pub apply : ℕ → ℕ → (ℕ → ℕ → Poly) → (ℕ → Poly) → ℕ → Poly
apply ℓ n A v i = dot ℓ n (A i) v

abbrev pub transposed : (ℕ → ℕ → Poly) → ℕ → ℕ → Poly
transposed A i j = A j i

-- The polynomial whose coefficients are listed, of numbers and of integers.
abbrev pub of_nats : List ℕ → Poly
of_nats xs k = pos (get_or xs k 0)

abbrev pub of_ints : List ℤ → Poly
of_ints xs k = get_or xs k (pos 0)

-- The coefficients of a polynomial modulo q, listed.
unfoldable pub residues : ℕ → ℕ → Poly → List ℕ
residues q n f = tabulate n (λ k. residue q (f k))

-- Polynomial i of a list that has polynomials of n coefficients one after another.
abbrev pub parts : ℕ → List ℕ → ℕ → Poly
parts n xs i x = pos (get_or xs (i * n + x) 0)

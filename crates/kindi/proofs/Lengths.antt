-- 01's table of lengths and that of work areas, by computation, and the limit of these, with the laws of lengths that it takes. Assumes nothing.
use mathlib.Core.Path.{◌≡◌}
use Prim.Native.Nat.{ℕ, ◌+◌, ◌*◌, ◌/◌, ◌≤◌}
use native.Mathlib.Nat.{le_refl, mul_assoc, mul-le-mul, mul-le-mul_left}
use native.Mathlib.Omega.{arith}
use lib.Count.{count_trailing_zeros}
use Rattle.kindi.specs.declared.Params.{Params}
use Rattle.kindi.specs.Params.{WellFormed, length_of, ciphertext_length, padded_length, polynomial_length, secrets_length}
use Rattle.kindi.specs.Params.{width, low_length, high_length, rest_length, coins_stream_length, of_set}
use Rattle.kindi.specs.Lengths.{LengthsOfSets, AreasOfSets, WorkAreas}

-- The lengths of the four sets are those of 01's table.
pub lengths : LengthsOfSets
unfolding of_set length_of count_trailing_zeros
lengths = search arith

-- The work areas of the four sets are those of the table.
pub areas : AreasOfSets
unfolding of_set length_of count_trailing_zeros
areas = search arith

-- a times b polynomials have a times the length of b.
length_product : (P : Params) (a b w : ℕ) → length_of P (a * b) w ≡ a * length_of P b w
unfolding length_of
length_product P a b w = mul_assoc a b (P.n / 8 * w)

-- More polynomials are no shorter, nor are wider coefficients.
pub length_mono : (P : Params) {a b v w : ℕ} → a ≤ b → v ≤ w → length_of P a v ≤ length_of P b w
unfolding length_of
length_mono P h l = mul-le-mul h (mul-le-mul_left (P.n / 8) l)

-- A polynomial of A is no longer than a ciphertext.
polynomial_short : (P : Params) → polynomial_length P ≤ ciphertext_length P
polynomial_short P = length_mono P (omega arith) (le_refl P.k)

-- The stream of γ is no longer than two padded messages: each of its halves is no longer than one.
secrets_short : (P : Params) → secrets_length P ≤ 2 * padded_length P
secrets_short P = rw (length_product P 2 P.l (width P)) (mul-le-mul_left 2 (length_mono P (omega arith) (le_refl (width P))))

-- The stream of the coins is no longer than a ciphertext and three padded messages: w, then the mask, h and the rest of s.
coins_stream_short : (P : Params) → WellFormed P → coins_stream_length P ≤ ciphertext_length P + 3 * padded_length P
coins_stream_short P W =
    let low : low_length P ≤ ciphertext_length P = length_mono P (omega arith) (omega (arith, W.kept)) in
    let high : high_length P ≤ padded_length P = length_mono P (omega arith) (omega arith) in
    let rest : rest_length P ≤ padded_length P = length_mono P (omega arith) (le_refl (width P)) in
    omega (arith, low, high, rest)

-- The work areas of well-formed parameters are within 01's limit.
pub work_areas : (P : Params) → WellFormed P → WorkAreas P
work_areas P W = search (arith, polynomial_short P, secrets_short P, coins_stream_short P W)

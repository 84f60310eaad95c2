-- `ring_vectors::signed_product` meets its contract: the sum starts at 0, and the product of values that are small stays within a word.
-- Assumes nothing.
use Rattle.std.proofs.Common.{◌≡◌, ℕ, zero, suc, ◌*◌, ◌≤◌, max, List, length, take, replicate, ℤ, pos, refl, ap, mul-le-mul, arith, rules}
use Rattle.ring.specs.Integers.{largest}
use Rattle.ring.specs.Coefficients.{Summable}
use Rattle.ring_vectors.proofs.signed_product.Goals as goal

-- The first of m zeros.
zeros : (m n : ℕ) → largest (take n (replicate m (pos 0))) ≡ 0
unfolding largest
zeros m zero = refl
zeros zero (suc n) = refl
zeros (suc m) (suc n) = ap (max 0) (zeros m n)

-- Values of at most 1,024 in size, 512 of them at most.
summable : {acc a b : List ℤ} → largest acc ≡ 0 → length acc ≤ 512 → length a ≡ length acc → length b ≡ length acc → largest a ≤ 1024
    → largest b ≤ 1024 → Summable acc a b
summable {acc} {a} {b} none short first second small_a small_b =
    let most : length acc * (largest a * largest b) ≤ 512 * (1024 * 1024) = mul-le-mul short (mul-le-mul small_a small_b) in
    record { first = first; second = second; short = short; negatable = omega arith; small = omega arith }

pub multiply_add-requires : goal.multiply_add-requires
multiply_add-requires g c =
    summable (zeros 512 c.args.head.n) (search rules) c.centre.auto.xs c.centre-2.auto.xs c.centre.ensures c.centre-2.ensures

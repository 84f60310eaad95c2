-- Four digits of a word that are moved apart by masks and products: first in pairs, then each. Assumes nothing.
use mathlib.Core.Path.{◌≡◌, sym, ap, ap₂, ◌∙◌}
use Prim.Native.Nat.{ℕ, ◌+◌, ◌-◌, ◌*◌, ◌/◌, ◌%◌, ◌^◌, ◌≤◌, ◌<◌}
use native.Mathlib.Nat.{mul-zero, div-one, add-mul, mul_assoc, mul_comm, mod-lt, mod-eq_of_lt, lt_of_lt_of_le, div-add-mod'}
use native.Mathlib.Omega.{arith}
use lib.Bits.{bit_and, and_mask, and_block, and_high}
use lib.Pow.{pow-add, pow_pos, pow_mono, ones_lt, high_ones, shl_lt, field, mod-mod-pow, shr-shr}
use Rattle.keccak.specs.Lists.{value, digits}
use Rattle.bits.proofs.Words.{one_at, digit_moved, power_from, four_widened}
use Rattle.packing.specs.Apart.{two_apart}

-- ---- pairs

-- The second digit in base 2^(2w), moved to bit 32.
pub pair_moved : (w x : ℕ) → w ≤ 16
    → bit_and x ((1 * 2 ^ (2 * w) % 2 ^ 64 - 1) * 2 ^ (2 * w) % 2 ^ 64) * (4294967296 / 2 ^ (2 * w)) ≡ x / 2 ^ (2 * w) % 2 ^ (2 * w) * 2 ^ 32
pair_moved w x h = digit_moved 64 (2 * w) (2 * w) 32 x (omega arith) (omega arith) (omega arith) (omega arith)

-- Such a digit is below 2^32.
pub pair_below : (w x : ℕ) → w ≤ 16 → x % 2 ^ (2 * w) < 2 ^ 32
pair_below w x h =
    let most : 2 * w ≤ 32 = omega arith in
    lt_of_lt_of_le (mod-lt x (pow_pos (2 * w))) (pow_mono most)

-- ---- the two of each half

-- The ones of w bits in both halves of a word, and the same moved up by w.
masks_are : (w : ℕ) → w ≤ 16 → (1 * 2 ^ w % 2 ^ 64 - 1) * 4294967297 ≡ (2 ^ w - 1) * 2 ^ 32 + (2 ^ w - 1)
masks_are w h = ap (λ (y : ℕ). (y - 1) * 4294967297) (one_at 64 w (omega arith)) ∙ omega arith

high_small : (w : ℕ) → w ≤ 16 → (2 ^ w - 1) * 2 ^ w < 2 ^ 32
high_small w h =
    let most : w + w ≤ 32 = omega arith in
    lt_of_lt_of_le (shl_lt w w (ones_lt w)) (pow_mono most)

high_masks_are : (w : ℕ) → w ≤ 16
    → (1 * 2 ^ w % 2 ^ 64 - 1) * 4294967297 * 2 ^ w % 2 ^ 64 ≡ (2 ^ w - 1) * 2 ^ w * 2 ^ 32 + (2 ^ w - 1) * 2 ^ w
high_masks_are w h =
    let m : ℕ = 2 ^ w - 1 in
    let p : ℕ = 2 ^ w in
    let t : ℕ = m * p in
    let small : t < 4294967296 = high_small w h in
    let moved : m * 4294967297 * p ≡ t * 4294967297 =
    mul_assoc m 4294967297 p ∙ ap (λ (y : ℕ). m * y) (mul_comm 4294967297 p) ∙ sym (mul_assoc m p 4294967297) in
    let fits : t * 4294967297 < 18446744073709551616 = omega (arith, small) in
    ap (λ (y : ℕ). (y - 1) * 4294967297 * p % 2 ^ 64) (one_at 64 w (omega arith)) ∙ ap (λ (y : ℕ). y % 2 ^ 64) moved
    ∙ mod-eq_of_lt fits ∙ omega arith

-- What they keep of a word.
pub both_kept : (w x : ℕ) → w ≤ 16 → bit_and x ((1 * 2 ^ w % 2 ^ 64 - 1) * 4294967297) ≡ x / 2 ^ 32 % 2 ^ w * 2 ^ 32 + x % 2 ^ 32 % 2 ^ w
both_kept w x h =
    let m : ℕ = 2 ^ w - 1 in
    let most : w ≤ 32 = omega arith in
    let small : m < 2 ^ 32 = lt_of_lt_of_le (ones_lt w) (pow_mono most) in
    ap₂ bit_and (sym (div-add-mod' x (2 ^ 32))) (masks_are w h)
    ∙ and_block 32 (x / 2 ^ 32) m (x % 2 ^ 32) m (mod-lt x (pow_pos 32)) small
    ∙ ap₂ (λ (a b : ℕ). a * 2 ^ 32 + b) (and_mask (x / 2 ^ 32) w) (and_mask (x % 2 ^ 32) w)

second_kept : (w x : ℕ) → w ≤ 16
    → bit_and x ((1 * 2 ^ w % 2 ^ 64 - 1) * 4294967297 * 2 ^ w % 2 ^ 64)
    ≡ x / 2 ^ 32 / 2 ^ w % 2 ^ w * 2 ^ w * 2 ^ 32 + x % 2 ^ 32 / 2 ^ w % 2 ^ w * 2 ^ w
second_kept w x h =
    let t : ℕ = (2 ^ w - 1) * 2 ^ w in
    let keeps : (n : ℕ) → bit_and n t ≡ n / 2 ^ w % 2 ^ w * 2 ^ w = λ n. ap (bit_and n) (sym (high_ones w w)) ∙ and_high n w w in
    ap₂ bit_and (sym (div-add-mod' x (2 ^ 32))) (high_masks_are w h)
    ∙ and_block 32 (x / 2 ^ 32) t (x % 2 ^ 32) t (mod-lt x (pow_pos 32)) (high_small w h)
    ∙ ap₂ (λ (a b : ℕ). a * 2 ^ 32 + b) (keeps (x / 2 ^ 32)) (keeps (x % 2 ^ 32))

-- The second digits of both halves, moved to bit 16 of theirs.
pub second_moved : (w x : ℕ) → w ≤ 16
    → bit_and x ((1 * 2 ^ w % 2 ^ 64 - 1) * 4294967297 * 2 ^ w % 2 ^ 64) * (65536 / 2 ^ w)
    ≡ x / 2 ^ 32 / 2 ^ w % 2 ^ w * 65536 * 2 ^ 32 + x % 2 ^ 32 / 2 ^ w % 2 ^ w * 65536
second_moved w x h =
    let b : ℕ = x / 2 ^ 32 / 2 ^ w % 2 ^ w in
    let a : ℕ = x % 2 ^ 32 / 2 ^ w % 2 ^ w in
    let p : ℕ = 2 ^ w in
    let r : ℕ = 2 ^ (16 - w) in
    let back : 16 - (16 - w) ≡ w = omega arith in
    let factor : 65536 / 2 ^ w ≡ r = ap (λ (k : ℕ). 65536 / 2 ^ k) (sym back) ∙ power_from (16 - w) (omega arith) in
    let sixteen : w + (16 - w) ≡ 16 = omega arith in
    let whole : p * r ≡ 65536 = sym (pow-add 2 w (16 - w)) ∙ ap (λ (k : ℕ). 2 ^ k) sixteen in
    let moved : (d : ℕ) → d * p * r ≡ d * 65536 = λ d. mul_assoc d p r ∙ ap (λ (y : ℕ). d * y) whole in
    let beside : b * p * 2 ^ 32 * r ≡ b * 65536 * 2 ^ 32 =
    mul_assoc (b * p) (2 ^ 32) r ∙ ap (λ (y : ℕ). b * p * y) (mul_comm (2 ^ 32) r) ∙ sym (mul_assoc (b * p) r (2 ^ 32))
    ∙ ap (λ (y : ℕ). y * 2 ^ 32) (moved b) in
    ap₂ ◌*◌ (second_kept w x h) factor ∙ add-mul (b * p * 2 ^ 32) (a * p) r ∙ ap₂ ◌+◌ beside (moved a)

-- ---- all four

-- The two digits of a pair are those of the number that it is taken from.
pair_apart : (w x : ℕ) → two_apart w (x % 2 ^ (2 * w)) ≡ x % 2 ^ w + x / 2 ^ w % 2 ^ w * 2 ^ 16
pair_apart w x =
    let same : 2 * w ≡ w + w = omega arith in
    ap (λ (k : ℕ). two_apart w (x % 2 ^ k)) same
    ∙ ap₂ (λ (a b : ℕ). a + b * 2 ^ 16) (mod-mod-pow x w w)
    (ap (λ (y : ℕ). y % 2 ^ w) (field x w w) ∙ mod-eq_of_lt (mod-lt (x / 2 ^ w) (pow_pos w)))

pub spread_is : (w x : ℕ) {y : ℕ} → w ≤ 16 → y ≡ x % 2 ^ (2 * w) + x / 2 ^ (2 * w) % 2 ^ (2 * w) * 2 ^ 32
    → two_apart w (y % 2 ^ 32) + two_apart w (y / 2 ^ 32) * 2 ^ 32 ≡ value 16 (digits w 4 x)
spread_is w x {y} h e =
    let z : ℕ = x / 2 ^ (2 * w) in
    let low : y % 2 ^ 32 ≡ x % 2 ^ (2 * w) = omega (arith, e, pair_below w x h) in
    let high : y / 2 ^ 32 ≡ z % 2 ^ (2 * w) = omega (arith, e, pair_below w x h) in
    let three : z / 2 ^ w ≡ x / 2 ^ (w * 3) = shr-shr x (2 * w) w ∙ ap (λ (k : ℕ). x / 2 ^ k) (omega arith) in
    let two : z ≡ x / 2 ^ (w * 2) = ap (λ (k : ℕ). x / 2 ^ k) (omega arith) in
    let one : x / 2 ^ w ≡ x / 2 ^ (w * 1) = ap (λ (k : ℕ). x / 2 ^ k) (omega arith) in
    let none : x ≡ x / 2 ^ (w * 0) = sym (ap (λ (k : ℕ). x / 2 ^ k) (mul-zero w) ∙ div-one x) in
    ap₂ (λ (a b : ℕ). a + b * 2 ^ 32) (ap (two_apart w) low ∙ pair_apart w x) (ap (two_apart w) high ∙ pair_apart w z)
    ∙ ap₂ (λ (a b : ℕ). a + b * 2 ^ 32)
    (ap₂ (λ (a b : ℕ). a % 2 ^ w + b % 2 ^ w * 2 ^ 16) none one) (ap₂ (λ (a b : ℕ). a % 2 ^ w + b % 2 ^ w * 2 ^ 16) two three)
    ∙ omega arith ∙ four_widened w x

-- What a word of a string has of its coefficients, and how the digits of a word are kept and moved. Assumes nothing.
use mathlib.Core.Path.{◌≡◌, sym, ap, ap₂, ◌∙◌}
use mathlib.Core.List.{List, ◌++◌}
use Prim.Native.Nat.{ℕ, ◌+◌, ◌-◌, ◌*◌, ◌/◌, ◌%◌, ◌^◌, ◌≤◌, ◌<◌}
use native.Mathlib.Nat.{mul-add, mul_assoc, mod-lt, mod-eq_of_lt, lt_of_lt_of_le, one-mul}
use native.Mathlib.Omega.{arith}
use lib.Bits.{bit_and, and_mask, and_high}
use lib.ListN.{get_or, drop}
use lib.Pow.{mod-pow-add, pow-add, pow-lt, pow_pos, pow_mono, high_ones, ones_lt, mod-mod-pow, field, shl_exact, shl-shr, shr-shr}
use lib.Seq.{get_or-drop}
use Rattle.keccak.specs.Lists.{tabulate, value, digits}
use Rattle.keccak.proofs.Parts.{length_digits}
use Rattle.bits.proofs.Digits.{digits-add, digits_low, digits_below, digits_of_value, digits-tabulate, value-drop, four_bytes}
use Rattle.bits.specs.Bits.{Below}

-- ---- the bits that a word has

-- The bits from bit s on of a word of m bits.
word_from : (m s x : ℕ) → s ≤ m → x % 2 ^ m / 2 ^ s ≡ x / 2 ^ s % 2 ^ (m - s)
word_from m s x h =
    let e : m ≡ (m - s) + s = omega arith in
    ap (λ (k : ℕ). x % 2 ^ k / 2 ^ s) e ∙ field x (m - s) s

-- The number from bit s of byte k on.
value-from : (k s : ℕ) (bs : List ℕ) → Below 256 bs → value 8 (drop k bs) / 2 ^ s ≡ value 8 bs / 2 ^ (8 * k + s)
value-from k s bs h = ap (λ (y : ℕ). y / 2 ^ s) (value-drop 8 bs k h) ∙ shr-shr (value 8 bs) (8 * k) s

-- The w bits from bit s of byte k on stand in the m bits from byte k on.
pub field_is : (m w k s : ℕ) (bs : List ℕ) → Below 256 bs → s + w ≤ m
    → value 8 (drop k bs) % 2 ^ m / 2 ^ s % 2 ^ w ≡ value 8 bs / 2 ^ (8 * k + s) % 2 ^ w
field_is m w k s bs h room =
    let x = value 8 (drop k bs) in
    let rest : m - s ≡ (m - s - w) + w = omega arith in
    ap (λ (y : ℕ). y % 2 ^ w) (word_from m s x (omega arith)) ∙ ap (λ (k : ℕ). x / 2 ^ s % 2 ^ k % 2 ^ w) rest
    ∙ mod-mod-pow (x / 2 ^ s) (m - s - w) w ∙ ap (λ (y : ℕ). y % 2 ^ w) (value-from k s bs h)

-- So do the n digits of w bits from there on.
pub digits_from : (m w n k s : ℕ) (bs : List ℕ) → Below 256 bs → s + w * n ≤ m
    → digits w n (value 8 (drop k bs) % 2 ^ m / 2 ^ s) ≡ digits w n (value 8 bs / 2 ^ (8 * k + s))
digits_from m w n k s bs h room =
    let x = value 8 (drop k bs) in
    ap (digits w n) (word_from m s x (omega arith)) ∙ digits_low w n (m - s) (x / 2 ^ s) (omega arith)
    ∙ ap (digits w n) (value-from k s bs h)

-- The first 64 bits of a string, byte by byte.
pub eight_bytes : (bs : List ℕ) → Below 256 bs
    → get_or bs 0 0 + 2 ^ 8 * (get_or bs 1 0 + 2 ^ 8 * (get_or bs 2 0 + 2 ^ 8 * get_or bs 3 0))
    + 2 ^ 32 * (get_or bs 4 0 + 2 ^ 8 * (get_or bs 5 0 + 2 ^ 8 * (get_or bs 6 0 + 2 ^ 8 * get_or bs 7 0)))
    ≡ value 8 bs % 2 ^ 64
eight_bytes bs h =
    let v = value 8 bs in
    let later : Below 256 (drop 4 bs) = λ i. rw (get_or-drop 4 bs i 0) (h (4 + i)) in
    let high = sym (simp get_or-drop at (four_bytes (drop 4 bs) later)) ∙ ap (λ (x : ℕ). x % 2 ^ 32) (value-drop 8 bs 4 h) in
    let swap : v % 2 ^ 32 + 2 ^ 32 * (v / 2 ^ 32 % 2 ^ 32) ≡ (v / 2 ^ 32 % 2 ^ 32) * 2 ^ 32 + v % 2 ^ 32 = omega arith in
    ap₂ (λ (a b : ℕ). a + 2 ^ 32 * b) (sym (four_bytes bs h)) high ∙ swap ∙ sym (mod-pow-add v 32 32)

-- Eight coefficients from two words: the second starts at half of their w bytes, in the middle of a byte where w is odd.
pub two_words : (w : ℕ) (bs : List ℕ) → Below 256 bs → w ≤ 16
    → digits w 4 (value 8 bs % 2 ^ 64) ++ digits w 4 (value 8 (drop (w / 2) bs) % 2 ^ 64 / 2 ^ (4 * (w % 2))) ≡ digits w 8 (value 8 bs)
two_words w bs h small =
    let v = value 8 bs in
    let middle : 8 * (w / 2) + 4 * (w % 2) ≡ w * 4 = omega arith in
    let room : w / 2 + w % 2 ≤ 8 = omega arith in
    ap₂ ◌++◌ (digits_low w 4 64 v (omega arith))
    (digits_from 64 w 4 (w / 2) (4 * (w % 2)) bs h (omega arith) ∙ ap (λ (k : ℕ). digits w 4 (v / 2 ^ k)) middle)
    ∙ sym (digits-add w 4 4 v)

-- The bits of the first 8·t coefficients of n, which fill w·t bytes, and those of the rest.
pub rest-parts : (w n t : ℕ) → 8 * t ≤ n → 8 * (w * t) + w * (n - 8 * t) ≡ w * n
rest-parts w n t h =
    let parts : 8 * t + (n - 8 * t) ≡ n = omega arith in
    omega (arith, mul-add w (8 * t) (n - 8 * t), ap (λ (x : ℕ). w * x) parts)

-- After t turns of eight coefficients the rest of the string has the rest of them.
pub rest_fits : (w n t m : ℕ) → 8 * t ≤ n → w * n ≤ 8 * m → w * (n - 8 * t) ≤ 8 * (m - w * t)
rest_fits w n t m h room = omega (arith, rest-parts w n t h)

-- ---- masks

-- A one at bit w of a word of m bits, as the code shifts it.
pub one_at : (m w : ℕ) → w < m → 1 * 2 ^ w % 2 ^ m ≡ 2 ^ w
one_at m w h = ap (λ (x : ℕ). x % 2 ^ m) (one-mul (2 ^ w)) ∙ mod-eq_of_lt (pow-lt h)

-- The mask that keeps the w low bits, as the code makes it.
pub mask_keeps : (m w c : ℕ) → w < m → bit_and c (1 * 2 ^ w % 2 ^ m - 1) ≡ c % 2 ^ w
mask_keeps m w c h = ap (λ (x : ℕ). bit_and c (x - 1)) (one_at m w h) ∙ and_mask c w

-- The same mask moved to bit k.
mask_at : (m w k c : ℕ) → w < m → w + k ≤ m → bit_and c ((1 * 2 ^ w % 2 ^ m - 1) * 2 ^ k % 2 ^ m) ≡ c / 2 ^ k % 2 ^ w * 2 ^ k
mask_at m w k c h room =
    ap (λ (x : ℕ). bit_and c ((x - 1) * 2 ^ k % 2 ^ m)) (one_at m w h) ∙ ap (bit_and c) (shl_exact w k m (ones_lt w) room ∙ sym (high_ones w k))
    ∙ and_high c w k

-- ---- digits that are moved

-- A power of two that is shifted down.
power_down : (i k : ℕ) → 2 ^ (i + k) / 2 ^ k ≡ 2 ^ i
power_down i k = ap (λ (x : ℕ). x / 2 ^ k) (pow-add 2 i k) ∙ shl-shr (2 ^ i) k

-- The code's mask and factor move the digit at bit k to bit j.
pub digit_moved : (m w k j c : ℕ) → w < m → w + k ≤ m → k ≤ j → j < m
    → bit_and c ((1 * 2 ^ w % 2 ^ m - 1) * 2 ^ k % 2 ^ m) * (1 * 2 ^ j % 2 ^ m / 2 ^ k) ≡ c / 2 ^ k % 2 ^ w * 2 ^ j
digit_moved m w k j c h room up less =
    let e : j ≡ (j - k) + k = omega arith in
    let f : j ≡ k + (j - k) = omega arith in
    let factor : 1 * 2 ^ j % 2 ^ m / 2 ^ k ≡ 2 ^ (j - k) =
    ap (λ (x : ℕ). x / 2 ^ k) (one_at m j less ∙ ap (λ (i : ℕ). 2 ^ i) e) ∙ power_down (j - k) k
    in
    let d = c / 2 ^ k % 2 ^ w in
    ap₂ ◌*◌ (mask_at m w k c h room) factor ∙ mul_assoc d (2 ^ k) (2 ^ (j - k))
    ∙ ap (λ (x : ℕ). d * x) (sym (ap (λ (i : ℕ). 2 ^ i) f ∙ pow-add 2 k (j - k)))

-- 2^w, as the code shifts it down from 2^16.
pub power_from : (w : ℕ) → w ≤ 16 → 65536 / 2 ^ (16 - w) ≡ 2 ^ w
power_from w h =
    let e : 16 ≡ w + (16 - w) = omega arith in
    ap (λ (k : ℕ). 2 ^ k / 2 ^ (16 - w)) e ∙ power_down w (16 - w)

-- A digit is below 2^16.
pub digit_below : (w x : ℕ) → w ≤ 16 → x % 2 ^ w < 65536
digit_below w x h = lt_of_lt_of_le (mod-lt x (pow_pos w)) (pow_mono h)

-- Four digits at their places in base 2^16.
four_places : (f : ℕ → ℕ) → f 0 * 2 ^ (16 * 0) + f 1 * 2 ^ (16 * 1) + f 2 * 2 ^ (16 * 2) + f 3 * 2 ^ (16 * 3) ≡ value 16 (tabulate 4 f)
unfolding value tabulate
four_places f = omega arith

-- The same of the digits of a number.
pub four_widened : (w x : ℕ)
    → x / 2 ^ (w * 0) % 2 ^ w * 2 ^ (16 * 0) + x / 2 ^ (w * 1) % 2 ^ w * 2 ^ (16 * 1) + x / 2 ^ (w * 2) % 2 ^ w * 2 ^ (16 * 2)
    + x / 2 ^ (w * 3) % 2 ^ w * 2 ^ (16 * 3)
    ≡ value 16 (digits w 4 x)
four_widened w x = four_places (λ j. x / 2 ^ (w * j) % 2 ^ w) ∙ ap (value 16) (sym (digits-tabulate w 4 x))

-- Digits that are put at places of u bits each are found there.
pub digits_apart : (u w n x : ℕ) → w ≤ u → digits u n (value u (digits w n x)) ≡ digits w n x
digits_apart u w n x h =
    let ds = digits w n x in
    ap (λ (k : ℕ). digits u k (value u ds)) (sym (length_digits w n x))
    ∙ digits_of_value u ds (λ i. lt_of_lt_of_le (digits_below w n x i) (pow_mono h))

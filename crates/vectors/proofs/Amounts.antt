-- Laws of lengths: how they add up, and that they are small. Assumes nothing.
use mathlib.Core.Path.{◌≡◌, sym, ap, ◌∙◌}
use Prim.Native.Nat.{ℕ, zero, suc, ◌+◌, ◌-◌, ◌*◌, ◌/◌, ◌≤◌, ◌<◌}
use native.Mathlib.Nat.{not-suc-le-zero, le_refl, add-sub_cancel, mul-le-mul, mul-le-mul_right, add-mul, one-mul, zero-mul, suc-mul}
use native.Mathlib.Numerals.{add-one}
use native.Mathlib.Omega.{arith}
use mathlib.Core.List.{List, ◌++◌}
use lib.ListN.{length, take, drop, length-append, length-take, length-drop}
use Rattle.keccak.proofs.Parts.{take_rest}
use Rattle.bits.specs.Bits.{bytes_for}
use Rattle.product.specs.Dots.{Vectors}
use Rattle.kindi.specs.declared.Params.{Params}
use Rattle.kindi.specs.Params.{WellFormed, width, length_of}
use Rattle.kindi.proofs.Lengths.{length_mono}
use Rattle.kindi.proofs.Strings.{whole_bytes}

-- A polynomial has at most 1,024 bytes, and 64 of them at most 65,536.
pub part_bound : (P : Params) → WellFormed P → {w : ℕ} → w ≤ 16 → P.n / 8 * w ≤ 1024
part_bound P W h =
    let eighth : P.n / 8 ≤ 64 = omega (arith, W.short) in
    mul-le-mul eighth h

pub length_bound : (P : Params) → WellFormed P → {m w : ℕ} → m ≤ 64 → w ≤ 16 → length_of P m w ≤ 65536
unfolding length_of
length_bound P W h l = mul-le-mul h (part_bound P W l)

-- Polynomials one after another.
pub length-add : (P : Params) (a b w : ℕ) → length_of P (a + b) w ≡ length_of P a w + length_of P b w
unfolding length_of
length-add P a b w = add-mul a b (P.n / 8 * w)

pub length_none : (P : Params) (w : ℕ) → length_of P 0 w ≡ 0
unfolding length_of
length_none P w = zero-mul (P.n / 8 * w)

-- More of them are longer.
pub length-le : (P : Params) {a b : ℕ} (w : ℕ) → a ≤ b → length_of P a w ≤ length_of P b w
length-le P w h = length_mono P h (le_refl w)

-- The width of a small coefficient is below 16.
pub width_bound : (P : Params) → WellFormed P → width P ≤ 16
width_bound P W = omega (arith, W.small, W.word)

-- Entry (i, j) of a matrix of l rows.
pub cell : {i j l : ℕ} → i < l → j < l → i * l + j < l * l
cell {i} {j} {l} h k = omega (arith, mul-le-mul_right l h, suc-mul i l)

-- m polynomials are read within their bytes.
pub reads : (P : Params) → WellFormed P → (m w : ℕ) {a b : ℕ} → a ≡ m * P.n → length_of P m w ≤ b → w * a ≤ 8 * b
reads P W m w {a} {b} e h =
    let whole : w * a ≡ 8 * length_of P m w = ap (λ (k : ℕ). w * k) e ∙ whole_bytes P W m w in
    omega (arith, whole)

-- They fill their bytes.
pub vector_fills : (P : Params) → WellFormed P → (m w : ℕ) {a b : ℕ} → a ≡ m * P.n → b ≡ length_of P m w → b ≡ bytes_for (w * a)
vector_fills P W m w {a} {b} e h =
    let whole : w * a ≡ 8 * length_of P m w = ap (λ (k : ℕ). w * k) e ∙ whole_bytes P W m w in
    omega (arith, whole)

pub fills : (P : Params) → WellFormed P → (w : ℕ) {a b : ℕ} → a ≡ P.n → b ≡ length_of P 1 w → b ≡ bytes_for (w * a)
fills P W w e h = vector_fills P W 1 w (e ∙ sym (one-mul P.n)) h

-- Vectors of a set.
pub vectors_of : (P : Params) → WellFormed P → {acc f s : List ℕ} → length acc ≡ P.n → length f ≡ P.l * P.n → length s ≡ P.l * P.n
    → Vectors P.l acc f s
vectors_of P W {acc} {f} {s} e a b =
    record {
      first = a ∙ ap (λ (k : ℕ). P.l * k) (sym e);
      second = b ∙ ap (λ (k : ℕ). P.l * k) (sym e);
      short = omega (arith, W.short);
      few = W.few;
    }

-- Polynomial a lies within m of them.
pub within : (P : Params) {a m : ℕ} (w : ℕ) → a < m → length_of P a w + length_of P 1 w ≤ length_of P m w
within P {a} {m} w h = rw (sym (length-add P a 1 w)) (length-le P w (rw (add-one a) h))

-- A part of a string of at most 65,536 entries.
pub record Placed (at part long : ℕ) : Type 0 where
  pub fits : at + part ≤ long
  pub short : long ≤ 65536

-- Polynomial a of m is one, in a string of the m.
pub placed : (P : Params) → WellFormed P → (a m w : ℕ) {at part long : ℕ} → at ≡ length_of P a w → part ≡ length_of P 1 w → long ≡ length_of P m w
    → a < m → m ≤ 64 → w ≤ 16 → Placed at part long
placed P W a m w {at} {part} {long} ea ep el h hm hw =
    let inside : length_of P a w + length_of P 1 w ≤ length_of P m w = within P w h in
    let few : length_of P m w ≤ 65536 = length_bound P W hm hw in
    record { fits = omega (arith, ea, ep, el, inside); short = omega (arith, el, few) }

-- m polynomials are read within the rest of a string.
pub reads_rest : (P : Params) → WellFormed P → (m w : ℕ) {a : ℕ} (from : ℕ) (bytes : List ℕ) → a ≡ m * P.n
    → from + length_of P m w ≤ length bytes → w * a ≤ 8 * length (take (length bytes - from) (drop from bytes))
reads_rest P W m w from bytes e h =
    reads P W m w e (rw (take_rest from bytes, length-drop from bytes) (omega (arith, h)))

-- A part of n entries has n entries.
pub part_length : (at n : ℕ) (xs : List ℕ) → at + n ≤ length xs → length (take (at + n - at) (drop at xs)) ≡ n
part_length at n xs h = simp (length-take, length-drop) (omega arith)

-- A vector without its first polynomial.
pub rest-size : (l n : ℕ) → 0 < l → l * n - n ≡ (l - 1) * n
rest-size zero n h = absurd (not-suc-le-zero h)
rest-size (suc l) n h =
    let one_less : suc l - 1 ≡ l = omega arith in
    rw (suc-mul l n, one_less) (add-sub_cancel (l * n) n)

-- A list with its beginning replaced keeps its length.
pub begun_length : {m : ℕ} (n : ℕ) (ys xs : List ℕ) → length ys ≡ n → length xs ≡ m → n ≤ m → length (ys ++ drop n xs) ≡ m
begun_length n ys xs e f h = simp (length-append, length-drop, e) (omega arith)

-- A vector is at least one polynomial.
pub begins : (P : Params) → WellFormed P → P.n ≤ P.l * P.n
begins P W =
    let one : 1 * P.n ≤ P.l * P.n = mul-le-mul_right P.n W.some_polynomials in
    rw one-mul at one

-- Polynomials one by one.
pub length_times : (P : Params) (m w : ℕ) → m * length_of P 1 w ≡ length_of P m w
unfolding length_of
length_times P m w = ap (λ (k : ℕ). m * k) (one-mul (P.n / 8 * w))

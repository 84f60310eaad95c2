-- Laws of sums of products over the integers that are added one by one: what is there after each, and that it fits 32 bits.
-- Assumes nothing.
use mathlib.Core.Path.{◌≡◌, sym, ap, ap₂, ◌∙◌}
use mathlib.Core.List.{List}
use Prim.Native.Nat.{ℕ, ◌+◌, ◌*◌, ◌^◌, ◌≤◌, ◌<◌}
use native.Mathlib.Nat.{le_refl, mul-le-mul, mul_comm}
use native.Mathlib.Numerals.{add-one}
use native.Mathlib.Omega.{arith}
use lib.IntN.{ℤ, pos, neg_ℤ, nat_abs, ◌+ℤ◌, +ℤ_idr, +ℤ_assoc}
use lib.ListN.{length, replicate}
use Rattle.keccak.specs.Lists.{tabulate}
use Rattle.keccak.proofs.Entries.{tabulate_at, length-tabulate}
use Rattle.bits.proofs.Filling.{tabulate_ext, tabulate_entries}
use Rattle.ring.specs.Integers.{largest}
use Rattle.ring.specs.Poly.{Poly, sum, mul, plus, minus, dot, of_ints}
use Rattle.ring.specs.Coefficients.{Summable, with_signed_product}
use Rattle.ring.proofs.Integers.{nat_abs_add, nat_abs_neg}
use Rattle.ring.proofs.Sums.{nat_abs_sum}
use Rattle.ring.proofs.Ring.{mul_ext, nat_abs_mul_poly}
use Rattle.ring.proofs.Sizes.{largest-le, le-largest, largest_zeros}

-- acc with the first i products of two vectors added.
abbrev pub partial : ℕ → List ℤ → (ℕ → Poly) → (ℕ → Poly) → ℕ → List ℤ
partial n acc F S i = tabulate n (plus (of_ints acc) (dot i n F S))

-- None.
pub partial_none : (n : ℕ) (acc : List ℤ) (F S : ℕ → Poly) → length acc ≡ n → acc ≡ partial n acc F S 0
unfolding dot sum
partial_none n acc F S e =
    sym (tabulate_entries acc (pos 0)) ∙ ap (λ (m : ℕ). tabulate m (of_ints acc)) e
    ∙ tabulate_ext n _ _ (λ k h. sym (+ℤ_idr (of_ints acc k)))

-- An entry of a table.
pub of_ints_table : (n : ℕ) (f : Poly) (k : ℕ) → k < n → of_ints (tabulate n f) k ≡ f k
of_ints_table n f k h = tabulate_at n f k (pos 0) h

-- One more.
pub partial_more : (n : ℕ) (acc₀ : List ℤ) (F S : ℕ → Poly) (i : ℕ) {acc x s : List ℤ} → acc ≡ partial n acc₀ F S i
    → x ≡ tabulate n (F i) → s ≡ tabulate n (S i) → with_signed_product acc x s ≡ partial n acc₀ F S (i + 1)
unfolding dot sum
partial_more n acc₀ F S i {acc} {x} {s} e ex es =
    let long : length acc ≡ n = ap length e ∙ length-tabulate n (plus (of_ints acc₀) (dot i n F S)) in
    ap (λ (m : ℕ). tabulate m (plus (of_ints acc) (mul m (of_ints x) (of_ints s)))) long
    ∙ tabulate_ext n _ _ (λ k h.
    ap₂ ◌+ℤ◌ (ap (λ (l : List ℤ). of_ints l k) e ∙ of_ints_table n (plus (of_ints acc₀) (dot i n F S)) k h)
    (mul_ext n (of_ints x) (F i) (of_ints s) (S i)
    (λ j l. ap (λ (r : List ℤ). of_ints r j) ex ∙ of_ints_table n (F i) j l)
    (λ j l. ap (λ (r : List ℤ). of_ints r j) es ∙ of_ints_table n (S i) j l) h)
    ∙ +ℤ_assoc (of_ints acc₀ k) (dot i n F S k) (mul n (F i) (S i) k)
    ∙ ap (λ (m : ℕ). of_ints acc₀ k +ℤ dot m n F S k) (sym (add-one i)))

-- ---- sizes

-- Coefficients of at most b.
abbrev pub Sized : ℕ → ℕ → Poly → Type 0
Sized n b f = (k : ℕ) → k < n → nat_abs (f k) ≤ b

pub largest_table : (n b : ℕ) (f : Poly) → Sized n b f → largest (tabulate n f) ≤ b
largest_table n b f h =
    largest-le (tabulate n f) b (λ k l.
    let inside : k < n = rw (length-tabulate n f) at l in
    rw (tabulate_at n f k (pos 0) inside) (h k inside))

-- i products of factors of at most B and C.
dot-size : (i n B C : ℕ) (F S : ℕ → Poly) (k : ℕ) → ((j : ℕ) → Sized n B (F j)) → ((j : ℕ) → Sized n C (S j)) → k < n
    → nat_abs (dot i n F S k) ≤ i * (n * (C * B))
unfolding dot
dot-size i n B C F S k hF hS h =
    rw (mul_comm C B) (nat_abs_sum i (n * (B * C)) (λ j. mul n (F j) (S j) k) (λ j _. nat_abs_mul_poly n B C (F j) (S j) (hF j) (hS j) h))

-- What is there after at most 8 of them, where none is above 2^23.
partial-size : (n B C : ℕ) (acc : List ℤ) (F S : ℕ → Poly) (i : ℕ) → i ≤ 8 → n * (C * B) ≤ 2 ^ 23
    → ((j : ℕ) → Sized n B (F j)) → ((j : ℕ) → Sized n C (S j)) → largest (partial n acc F S i) ≤ largest acc + 2 ^ 26
partial-size n B C acc F S i few small hF hS =
    let most : i * (n * (C * B)) ≤ 8 * 2 ^ 23 = mul-le-mul few small in
    largest_table n (largest acc + 2 ^ 26) (plus (of_ints acc) (dot i n F S))
    (λ k h. omega (arith, nat_abs_add (of_ints acc k) (dot i n F S k), le-largest acc k, dot-size i n B C F S k hF hS h, most))

-- There is room for one more.
pub summable : (l n B C : ℕ) (acc₀ : List ℤ) (F S : ℕ → Poly) (i : ℕ) {acc x s : List ℤ} → i < l → l ≤ 8 → n ≤ 512 → C ≤ 64
    → n * (C * B) ≤ 2 ^ 23 → largest acc₀ ≤ 2 ^ 30 → ((j : ℕ) → Sized n B (F j)) → ((j : ℕ) → Sized n C (S j))
    → acc ≡ partial n acc₀ F S i → x ≡ tabulate n (F i) → s ≡ tabulate n (S i) → Summable acc x s
summable l n B C acc₀ F S i {acc} {x} {s} turn few short narrow small start hF hS e ex es =
    let long : length acc ≡ n = ap length e ∙ length-tabulate n (plus (of_ints acc₀) (dot i n F S)) in
    let first-most : largest x ≤ B = rw ex (largest_table n B (F i) (hF i)) in
    let second-most : largest s ≤ C = rw es (largest_table n C (S i) (hS i)) in
    let before : largest acc ≤ largest acc₀ + 2 ^ 26 = rw e (partial-size n B C acc₀ F S i (omega arith) small hF hS) in
    let more : n * (largest x * largest s) ≤ n * (B * C) = mul-le-mul (le_refl n) (mul-le-mul first-most second-most) in
    record {
      first = ap length ex ∙ length-tabulate n (F i) ∙ sym long;
      second = ap length es ∙ length-tabulate n (S i) ∙ sym long;
      short = rw long short;
      negatable = omega (arith, second-most);
      small = rw long (omega (arith, before, start, more, ap (λ (m : ℕ). n * m) (mul_comm B C), small));
    }

-- ---- the noise

-- The last error less what is there.
pub rest-size : (n : ℕ) (x acc : List ℤ) {ys : List ℤ} → ys ≡ tabulate n (minus (of_ints x) (of_ints acc)) → largest ys ≤ largest x + largest acc
rest-size n x acc e =
    rw e (largest_table n (largest x + largest acc) (minus (of_ints x) (of_ints acc))
    (λ k h. omega (arith, nat_abs_add (of_ints x k) (neg_ℤ (of_ints acc k)), nat_abs_neg (of_ints acc k), le-largest x k, le-largest acc k)))

-- Products added to zeros.
pub errors_size : (l n B C : ℕ) (F S : ℕ → Poly) {zeros acc : List ℤ} → zeros ≡ replicate n (pos 0) → l ≤ 8 → n * (C * B) ≤ 2 ^ 23
    → ((j : ℕ) → Sized n B (F j)) → ((j : ℕ) → Sized n C (S j)) → acc ≡ partial n zeros F S l → largest acc ≤ 2 ^ 26
errors_size l n B C F S {zeros} {acc} ez few small hF hS e =
    let none : largest zeros ≡ 0 = ap largest ez ∙ largest_zeros n in
    rw e (omega (arith, partial-size n B C zeros F S l few small hF hS))

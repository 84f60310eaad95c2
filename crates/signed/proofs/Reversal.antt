-- Laws of the product that `signed::multiply_add` adds up coefficient by coefficient, over the integers. Assumes nothing.
use mathlib.Core.Path.{◌≡◌, sym, ap, ◌∙◌}
use mathlib.Core.List.{List, ◌++◌}
use Prim.Native.Nat.{ℕ, ◌+◌, ◌-◌, ◌*◌, ◌^◌, ◌≤◌, ◌<◌}
use native.Mathlib.Nat.{min-eq_left}
use native.Mathlib.Omega.{arith}
use lib.IntN.{ℤ, pos, neg_ℤ, nat_abs, ◌+ℤ◌, ◌*ℤ◌}
use lib.ListN.{length, get_or, take, drop, length-append, length-take, length-drop, get_or-append}
use lib.Seq.{get_or-append-add, get_or-take, get_or-drop, ext_get_or}
use Rattle.std.proofs.Common.{reverse}
use Rattle.std.proofs.lemmas.List.{get_or-reverse, length-reverse}
use Rattle.keccak.proofs.Entries.{tabulate_at, length-tabulate}
use Rattle.ring.proofs.Ring.{shifted_low, shifted_high, sides, nat_abs_mul_poly}
use Rattle.ring.proofs.Sizes.{le-largest, largest-le}
use Rattle.ring.proofs.Sums.{sum_ext}
use Rattle.ring.proofs.Integers.{nat_abs_add, nat_abs_neg}
use Rattle.ring.specs.Integers.{largest}
use Rattle.ring.specs.Poly.{Poly, sum, shifted, mul, plus, of_ints}
use Rattle.ring.specs.Terms.{backwards, negated_backwards}

-- A list turned round is its entries from the last one down.
pub reversed : (xs : List ℤ) → reverse xs ≡ backwards xs
reversed xs =
    ext_get_or (pos 0) (reverse xs) (backwards xs) (length-reverse xs ∙ sym (length-tabulate (length xs) (λ i. of_ints xs (length xs - 1 - i))))
    (λ k h.
    let inside : k < length xs = rw length-reverse at h in
    get_or-reverse xs k (pos 0) inside ∙ sym (tabulate_at (length xs) (λ i. of_ints xs (length xs - 1 - i)) k (pos 0) inside))

-- From place n − 1 − k on stands what the coefficients of the other factor meet in coefficient k.
pub backwards_at : (b : List ℤ) (j k : ℕ) → j < length b → k < length b
    → get_or (backwards b ++ negated_backwards b) (length b - 1 - k + j) (pos 0) ≡ shifted (length b) (of_ints b) j k
backwards_at b j k hj hk =
    let n = length b in
    let f : Poly = λ i. of_ints b (n - 1 - i) in
    let g : Poly = λ i. neg_ℤ (of_ints b (n - 1 - i)) in
    let front : length (backwards b) ≡ n = length-tabulate n f in
    sides j k
    (λ h.
    let place : n - 1 - k + j < n = omega arith in
    let entry : n - 1 - (n - 1 - k + j) ≡ k - j = omega arith in
    get_or-append (backwards b) (negated_backwards b) (pos 0) (n - 1 - k + j) (rw front place)
    ∙ tabulate_at n f (n - 1 - k + j) (pos 0) place
    ∙ ap (of_ints b) entry
    ∙ sym (shifted_low n (of_ints b) h))
    (λ h.
    let past : n - 1 - k + j ≡ length (backwards b) + (j - k - 1) = rw front (omega arith) in
    let place : j - k - 1 < n = omega arith in
    let entry : n - 1 - (j - k - 1) ≡ n + k - j = omega arith in
    ap (λ (i : ℕ). get_or (backwards b ++ negated_backwards b) i (pos 0)) past
    ∙ get_or-append-add (backwards b) (negated_backwards b) (j - k - 1) (pos 0)
    ∙ tabulate_at n g (j - k - 1) (pos 0) place
    ∙ ap (λ (i : ℕ). neg_ℤ (of_ints b i)) entry
    ∙ sym (shifted_high n (of_ints b) h))

-- The same in a longer row.
pub row_at : (n k : ℕ) (b row rest : List ℤ) → length b ≡ n → row ≡ backwards b ++ negated_backwards b → k < n → (j : ℕ) → j < n
    → get_or (row ++ rest) (n - 1 - k + j) (pos 0) ≡ shifted n (of_ints b) j k
row_at n k b row rest l e hk j hj =
    let long : length row ≡ n + n =
    ap length e ∙ length-append (backwards b) (negated_backwards b) ∙ rw (length-tabulate, length-tabulate, l)
    in
    let inside : length b - 1 - k + j < length row = omega arith in
    rw (← l)
    (get_or-append row rest (pos 0) (length b - 1 - k + j) inside ∙ ap (λ (r : List ℤ). get_or r (length b - 1 - k + j) (pos 0)) e
    ∙ backwards_at b j k (omega arith) (omega arith))

-- The part of a row that coefficient k reads.
abbrev pub met : ℕ → ℕ → List ℤ → List ℤ
met n k row = take (2 * n - 1 - k - (n - 1 - k)) (drop (n - 1 - k) row)

module _ (n k : ℕ) (b row : List ℤ) (l : length b ≡ n) (h : k < n)
    (at : (j : ℕ) → j < n → get_or row (n - 1 - k + j) (pos 0) ≡ shifted n (of_ints b) j k) where
  pub met_at : (j : ℕ) → j < n → get_or (met n k row) j (pos 0) ≡ shifted n (of_ints b) j k
  met_at j hj =
      let inside : j < 2 * n - 1 - k - (n - 1 - k) = omega arith in
      get_or-take (2 * n - 1 - k - (n - 1 - k)) (drop (n - 1 - k) row) j (pos 0) inside ∙ get_or-drop (n - 1 - k) row j (pos 0) ∙ at j hj

  pub met_long : 2 * n ≤ length row → length (met n k row) ≡ n
  met_long room =
      let whole : 2 * n - 1 - k - (n - 1 - k) ≡ n = omega arith in
      let rest : n ≤ length row - (n - 1 - k) = omega arith in
      rw whole (simp (length-take, length-drop) (min-eq_left rest))

  -- It is no larger than b.
  pub met-size : 2 * n ≤ length row → largest (met n k row) ≤ largest b
  met-size room =
      largest-le (met n k row) (largest b)
      (λ j hj.
      let inside : j < n = rw (met_long room) at hj in
      rw (met_at j inside)
      (sides j k (λ q. rw (shifted_low n (of_ints b) q) (le-largest b (k - j)))
      (λ q. rw (shifted_high n (of_ints b) q) (rw (nat_abs_neg (of_ints b (n + k - j))) (le-largest b (n + k - j))))))

  -- The sum of its products with the entries of a is coefficient k of the product.
  pub met_product : (a : List ℤ) → sum n (λ j. of_ints a j *ℤ of_ints (met n k row) j) ≡ mul n (of_ints a) (of_ints b) k
  unfolding mul
  met_product a =
      sum_ext n (λ j. of_ints a j *ℤ of_ints (met n k row) j) (λ j. of_ints a j *ℤ shifted n (of_ints b) j k)
      (λ j hj. ap (λ (x : ℤ). of_ints a j *ℤ x) (met_at j hj))

-- The product fits where the bounds of the factors say so, and so does its sum with acc.
pub product_bound : (n k : ℕ) (acc a b : List ℤ) → k < n → largest acc + n * (largest a * largest b) < 2 ^ 31
    → nat_abs (plus (of_ints acc) (mul n (of_ints a) (of_ints b)) k) < 2 ^ 31
product_bound n k acc a b hk s =
    let terms : nat_abs (mul n (of_ints a) (of_ints b) k) ≤ n * (largest a * largest b) =
    nat_abs_mul_poly n (largest a) (largest b) (of_ints a) (of_ints b) (λ i _. le-largest a i) (λ i _. le-largest b i) hk
    in
    let both : nat_abs (of_ints acc k +ℤ mul n (of_ints a) (of_ints b) k) ≤ nat_abs (of_ints acc k) + nat_abs (mul n (of_ints a) (of_ints b) k) =
    nat_abs_add (of_ints acc k) (mul n (of_ints a) (of_ints b) k)
    in
    omega (arith, le-largest acc k)

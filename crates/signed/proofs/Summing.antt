-- Laws of the sums of products that `signed::dot` and `signed::multiply_add` carry from turn to turn, over the integers. Assumes nothing.
use mathlib.Core.Path.{◌≡◌, refl, sym, ap, ap₂, ◌∙◌}
use mathlib.Core.List.{List, ◌++◌}
use Prim.Native.Nat.{ℕ, ◌+◌, ◌-◌, ◌*◌, ◌^◌, ◌≤◌, ◌<◌}
use native.Mathlib.Nat.{le_refl, lt_of_le_of_lt, mul-le-mul, add-zero}
use native.Mathlib.Numerals.{add-one}
use native.Mathlib.Omega.{arith}
use lib.IntN.{ℤ, pos, ◌+ℤ◌, ◌*ℤ◌, +ℤ_idl}
use lib.ListN.{length, get_or, drop, set, length-append, length-drop}
use mir.Syntax.{w16, w32}
use mir.Val.{SFits, to_z, of_z}
use mir.ValLaws.{to_z-of_z}
use Rattle.bits.proofs.Filling.{Filling, filling_begun, filling_more, filling_at}
use Rattle.ring.proofs.Sizes.{dot_fits, fits_abs, word_sum, term_read, terms_fit}
use Rattle.ring.proofs.Sums.{sum_split}
use Rattle.ring.specs.Integers.{largest}
use Rattle.ring.specs.Poly.{sum, shifted, mul, plus, of_ints}
use Rattle.ring.specs.Coefficients.{Summable}
use Rattle.ring.specs.Terms.{backwards, negated_backwards, terms, Terms}
use Rattle.signed.proofs.Reversal.{row_at, met, met_long, met-size, met_product, product_bound}

-- A number x with k of the terms from place i on, in lists so small that no such sum leaves 32 bits: with the next one, in a word r,
-- it has k + 1.
module _ {a b : List ℤ} {i m k : ℕ} {x r : ℤ} (small : Terms a b i m) (in-it : k < m) (has : x ≡ sum k (λ j. terms a b (i + j)))
    (word : SFits w32 r) (is : r ≡ terms a b (i + k)) where
  next_term : x +ℤ to_z w32 (of_z w32 r) ≡ sum (k + 1) (λ j. terms a b (i + j))
  unfolding sum
  next_term = rw add-one (ap₂ ◌+ℤ◌ has (to_z-of_z w32 r word ∙ is))

  next_fits : SFits w32 (sum (k + 1) (λ j. terms a b (i + j)))
  next_fits = terms_fit a b i m (k + 1) small (omega arith)

  pub term_fits : SFits w32 (x +ℤ to_z w32 (of_z w32 r))
  term_fits = rw next_term next_fits

  pub term_value : to_z w32 (of_z w32 (x +ℤ to_z w32 (of_z w32 r))) ≡ sum (k + 1) (λ j. terms a b (i + j))
  term_value = ap (λ (z : ℤ). to_z w32 (of_z w32 z)) next_term ∙ to_z-of_z w32 (sum (k + 1) (λ j. terms a b (i + j))) next_fits

-- A word that has the sum of the products of the first i entries, in lists so small that no such sum leaves 32 bits.
pub record Summed (a b : List ℤ) (i total : ℕ) : Type 0 where
  pub same : length b ≡ length a
  pub small : length a * (largest a * largest b) < 2 ^ 31
  pub within : i ≤ length a
  pub is : total ≡ of_z w32 (sum i (terms a b))

module _ {a b : List ℤ} {i total : ℕ} (h : Summed a b i total) where
  pub summed_value : to_z w32 total ≡ sum i (terms a b)
  summed_value = ap (to_z w32) h.is ∙ to_z-of_z w32 (sum i (terms a b)) (dot_fits a b i (length a) h.within h.small)

  -- A word r with the next m terms: with it the sum is that of i + m products, and fits.
  module _ (m : ℕ) {r : ℤ} (room : i + m ≤ length a) (word : SFits w32 r) (is : r ≡ sum m (λ j. terms a b (i + j))) where
    next_value : to_z w32 total +ℤ to_z w32 (of_z w32 r) ≡ sum (i + m) (terms a b)
    next_value = ap₂ ◌+ℤ◌ summed_value (to_z-of_z w32 r word ∙ is) ∙ sym (sum_split i m (terms a b))

    pub summed_fits : SFits w32 (to_z w32 total +ℤ to_z w32 (of_z w32 r))
    summed_fits = rw next_value (dot_fits a b (i + m) (length a) room h.small)

    pub summed_more : Summed a b (i + m) (of_z w32 (to_z w32 total +ℤ to_z w32 (of_z w32 r)))
    summed_more = record { same = h.same; small = h.small; within = room; is = ap (of_z w32) next_value }

-- The same of a number x with the sum of the first i products.
module _ (a b : List ℤ) {i : ℕ} {x : ℤ} (both : (length b ≡ length a) × (length a * (largest a * largest b) < 2 ^ 31)) (within : i ≤ length a)
    (has : x ≡ sum i (terms a b)) where
  summed : Summed a b i (of_z w32 (sum i (terms a b)))
  summed = record { same = both.0; small = both.1; within = within; is = refl }

  held : x ≡ to_z w32 (of_z w32 (sum i (terms a b)))
  held = has ∙ sym (summed_value summed)

  module _ (m : ℕ) {r : ℤ} (room : i + m ≤ length a) (word : SFits w32 r) (is : r ≡ sum m (λ j. terms a b (i + j))) where
    pub sum_fits : SFits w32 (x +ℤ to_z w32 (of_z w32 r))
    sum_fits = rw held (summed_fits summed m room word is)

    pub sum_more : to_z w32 (of_z w32 (x +ℤ to_z w32 (of_z w32 r))) ≡ sum (i + m) (terms a b)
    sum_more = rw held (summed_value (summed_more summed m room word is))

-- The product of two entries, read as words, is a sum of one term.
pub one_term : (a b : List ℤ) (i : ℕ) {r : ℤ} → SFits w16 (of_ints a i) → SFits w16 (of_ints b i)
    → r ≡ to_z w16 (of_z w16 (of_ints a i)) *ℤ to_z w16 (of_z w16 (of_ints b i))
    → r ≡ sum 1 (λ j. terms a b (i + j))
unfolding sum
one_term a b i fa fb e =
    e ∙ term_read a b i fa fb ∙ ap (terms a b) (sym (add-zero i)) ∙ sym (+ℤ_idl (terms a b (i + 0)))

-- What `multiply_add` carries: the row has b backwards and then −b, in a room of 1024 entries, and the first k coefficients have those of
-- the product.
pub record Multiplied (acc₀ a b row : List ℤ) (k : ℕ) (acc : List ℤ) : Type 0 where
  pub factors : Summable acc₀ a b
  pub room : length row ≡ 1024
  pub meets : (k : ℕ) → k < length acc₀ → (j : ℕ) → j < length acc₀
      → get_or row (length acc₀ - 1 - k + j) (pos 0) ≡ shifted (length acc₀) (of_ints b) j k
  pub done : Filling (plus (of_ints acc₀) (mul (length acc₀) (of_ints a) (of_ints b))) acc₀ k acc

module _ {acc₀ a b : List ℤ} where
  pub multiplied_begun : (room : List ℤ) {row : List ℤ} → Summable acc₀ a b → row ≡ backwards b ++ negated_backwards b
      → length row ≡ 2 * length acc₀
      → length room ≡ 1024
      → Multiplied acc₀ a b (row ++ drop (2 * length acc₀) room) 0 acc₀
  multiplied_begun room {row} both e twice wide =
      let n = length acc₀ in
      let short : n ≤ 512 = both.short in
      record {
        factors = both;
        room = simp (length-append, length-drop) (omega arith);
        meets = λ k. row_at n k b row (drop (2 * n) room) both.second e;
        done = filling_begun;
      }

  module _ {row : List ℤ} {k : ℕ} {acc : List ℤ} (h : Multiplied acc₀ a b row k acc) (in-it : k < length acc₀) where
    long : 2 * length acc₀ ≤ length row
    long = omega (arith, h.room, h.factors.short)

    -- The part of the row that the turn reads is as long as a, and no sum of its products with a leaves 32 bits.
    pub turn_terms : (length (met (length acc₀) k row) ≡ length a) × (length a * (largest a * largest (met (length acc₀) k row)) < 2 ^ 31)
    turn_terms =
        let n = length acc₀ in
        let at = h.meets k in-it in
        let size = met-size n k b row h.factors.second in-it at long in
        let small : n * (largest a * largest b) < 2 ^ 31 = omega (arith, h.factors.small) in (
          met_long n k b row h.factors.second in-it at long ∙ sym h.factors.first,
          rw h.factors.first (lt_of_le_of_lt (mul-le-mul (le_refl n) (mul-le-mul (le_refl (largest a)) size)) small),
        )

    -- Coefficient k with that of the product, and that it fits.
    abbrev wanted : ℤ
    wanted = plus (of_ints acc₀) (mul (length acc₀) (of_ints a) (of_ints b)) k

    wanted_fits : SFits w32 wanted
    wanted_fits = fits_abs w32 wanted (product_bound (length acc₀) k acc₀ a b in-it h.factors.small)

    -- A word r with the sum of the turn's products.
    module _ {r : ℤ} (here : SFits w32 (get_or acc k (pos 0))) (word : SFits w32 r)
        (is : r ≡ sum (length a) (λ i. of_ints a i *ℤ of_ints (met (length acc₀) k row) i)) where
      next_is : to_z w32 (of_z w32 (get_or acc k (pos 0))) +ℤ to_z w32 (of_z w32 r) ≡ wanted
      next_is =
          word_sum here word (filling_at (pos 0) h.done (le_refl k))
          (is ∙ rw h.factors.first (met_product (length acc₀) k b row h.factors.second in-it (h.meets k in-it) a))

      pub turn_fits : SFits w32 (to_z w32 (of_z w32 (get_or acc k (pos 0))) +ℤ to_z w32 (of_z w32 r))
      turn_fits = rw next_is wanted_fits

      -- One turn more.
      pub multiplied_more : Multiplied acc₀ a b row (k + 1)
          (set acc k (to_z w32 (of_z w32 (to_z w32 (of_z w32 (get_or acc k (pos 0))) +ℤ to_z w32 (of_z w32 r)))))
      multiplied_more = record {
        factors = h.factors;
        room = h.room;
        meets = h.meets;
        done = filling_more (pos 0) h.done in-it (ap (λ (z : ℤ). to_z w32 (of_z w32 z)) next_is ∙ to_z-of_z w32 wanted wanted_fits);
      }

-- How many products each sum has when the polynomial in row i and column j is next. Assumes nothing.
use mathlib.Core.Path.{◌≡◌, refl, sym, ◌∙◌}
use mathlib.Core.Bool.{Bool, true, false, cond}
use Prim.Native.Nat.{ℕ, zero, suc, ◌+◌, ◌≤◌, ◌<◌}
use native.Mathlib.Nat.{not-suc-le_self, le_trans}
use native.Mathlib.Omega.{arith}
use lib.Dec.{T, ltb, lt→ltb, ltb→lt}
use Rattle.ring.proofs.Ring.{sides}

-- By columns sum b has the products of the rows before i, and that of row i where its column has been; by rows it has all of them
-- where its row has been, and those of the columns before j where its row is i.
abbrev pub count : Bool → ℕ → ℕ → ℕ → ℕ → ℕ
count true ℓ i j b = cond (ltb b j) (i + 1) i
count false ℓ i j b = cond (ltb b i) ℓ (cond (ltb i b) 0 j)

-- ---- tests

less : {A : Type 0} (a b : ℕ) (x y : A) → a < b → cond (ltb a b) x y ≡ x
less a b x y h = chosen (ltb a b) (lt→ltb a b h)
  where
    chosen : (t : Bool) → T t → cond t x y ≡ x
    chosen true p = refl
    chosen false p = absurd p

not_less : {A : Type 0} (a b : ℕ) (x y : A) → b ≤ a → cond (ltb a b) x y ≡ y
not_less a b x y h = other (ltb a b) (λ p. not-suc-le_self a (le_trans (ltb→lt a b p) h))
  where
    other : (t : Bool) → (T t → ⊥) → cond t x y ≡ y
    other true p = absurd (p tt)
    other false p = refl

-- ---- the counts

-- No product at first, all of them at the end.
pub count-start : (columns : Bool) (ℓ b : ℕ) → count columns ℓ 0 0 b ≡ 0
count-start true ℓ b = not_less b 0 1 0 (omega arith)
count-start false ℓ b = not_less b 0 ℓ (cond (ltb 0 b) 0 0) (omega arith) ∙ same (ltb 0 b)
  where
    same : (t : Bool) → cond t 0 0 ≡ zero
    same true = refl
    same false = refl

pub count_end : (columns : Bool) {ℓ b : ℕ} → b < ℓ → count columns ℓ ℓ 0 b ≡ ℓ
count_end true {ℓ} {b} h = not_less b 0 (ℓ + 1) ℓ (omega arith)
count_end false {ℓ} {b} h = less b ℓ ℓ (cond (ltb ℓ b) 0 0) h

-- The sum that the polynomial goes to has as many as the number of the part of v that it meets.
pub count_here : (columns : Bool) (ℓ i j : ℕ) → count columns ℓ i j (cond columns j i) ≡ cond columns i j
count_here true ℓ i j = not_less j j (i + 1) i (omega arith)
count_here false ℓ i j = not_less i i ℓ (cond (ltb i i) 0 j) (omega arith) ∙ not_less i i 0 j (omega arith)

-- After it that sum has one more.
pub count_more : (columns : Bool) (ℓ i j : ℕ) → count columns ℓ i (j + 1) (cond columns j i) ≡ suc (cond columns i j)
count_more true ℓ i j = less j (j + 1) (i + 1) i (omega arith) ∙ omega arith
count_more false ℓ i j =
    not_less i i ℓ (cond (ltb i i) 0 (j + 1)) (omega arith) ∙ not_less i i 0 (j + 1) (omega arith) ∙ omega arith

-- The others have as many as they had.
pub count_same : (columns : Bool) (ℓ i j b : ℕ) → (b ≡ cond columns j i → ⊥) → count columns ℓ i (j + 1) b ≡ count columns ℓ i j b
count_same true ℓ i j b other =
    sides (j + 1) b
    (λ l. not_less b (j + 1) (i + 1) i l ∙ sym (not_less b j (i + 1) i (omega arith)))
    (λ l.
    let before : b < j = sides j b (λ e. absurd (other (omega arith))) (λ e. e) in
    less b (j + 1) (i + 1) i l ∙ sym (less b j (i + 1) i before))
count_same false ℓ i j b other =
    sides i b
    (λ l.
    let after : i < b = sides b i (λ e. absurd (other (omega arith))) (λ e. e) in
    not_less b i ℓ (cond (ltb i b) 0 (j + 1)) l ∙ less i b 0 (j + 1) after
    ∙ sym (not_less b i ℓ (cond (ltb i b) 0 j) l ∙ less i b 0 j after))
    (λ l. less b i ℓ (cond (ltb i b) 0 (j + 1)) l ∙ sym (less b i ℓ (cond (ltb i b) 0 j) l))

-- A row that is done is behind the next one.
pub count_next : (columns : Bool) (ℓ i b : ℕ) → b < ℓ → count columns ℓ (i + 1) 0 b ≡ count columns ℓ i ℓ b
count_next true ℓ i b h = not_less b 0 (i + 1 + 1) (i + 1) (omega arith) ∙ sym (less b ℓ (i + 1) i h)
count_next false ℓ i b h =
    sides (i + 1) b
    (λ l.
    not_less b (i + 1) ℓ (cond (ltb (i + 1) b) 0 0) l ∙ none (ltb (i + 1) b)
    ∙ sym (not_less b i ℓ (cond (ltb i b) 0 ℓ) (omega arith) ∙ less i b 0 ℓ (omega arith)))
    (λ l.
    less b (i + 1) ℓ (cond (ltb (i + 1) b) 0 0) l
    ∙ sym (sides i b
    (λ k. not_less b i ℓ (cond (ltb i b) 0 ℓ) k ∙ not_less i b 0 ℓ (omega arith))
    (λ k. less b i ℓ (cond (ltb i b) 0 ℓ) k)))
  where
    none : (t : Bool) → cond t 0 0 ≡ zero
    none true = refl
    none false = refl

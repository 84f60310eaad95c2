-- Laws of the sum f 0 + … + f (n − 1) of integers. Assumes nothing.
use mathlib.Core.Path.{◌≡◌, refl, sym, ap, ap₂, ◌∙◌}
use mathlib.Core.Logic.{◌≢◌}
use Prim.Native.Nat.{ℕ, zero, suc, ◌+◌, ◌*◌, ◌≤◌, ◌<◌}
use native.Mathlib.Nat.{add-zero, add-suc, not-suc-le-zero, le_refl}
use native.Mathlib.Decide.{ℕ_discrete}
use native.Mathlib.Omega.{arith}
use lib.IntN.{ℤ, pos, neg_ℤ, nat_abs, ◌+ℤ◌, ◌*ℤ◌, +ℤ_assoc, +ℤ_idl, +ℤ_idr, neg_ℤ-+ℤ, zero-*ℤ, *ℤ-zero}
use Rattle.ring.specs.Integers.{Cong}
use Rattle.ring.specs.Poly.{sum}
use Rattle.ring.proofs.Integers.{+ℤ_left_comm, *ℤ_distl, *ℤ_distr, nat_abs_add}
use Rattle.ring.proofs.Modular.{cong_refl, cong_add}

-- Equal terms have equal sums.
pub sum_ext : (n : ℕ) (f g : ℕ → ℤ) → ((i : ℕ) → i < n → f i ≡ g i) → sum n f ≡ sum n g
unfolding sum
sum_ext zero f g e = refl
sum_ext (suc n) f g e = ap₂ ◌+ℤ◌ (sum_ext n f g (λ i h. e i (omega arith))) (e n (le_refl (suc n)))

-- A sum of zeros is zero.
pub sum-zero : (n : ℕ) (f : ℕ → ℤ) → ((i : ℕ) → i < n → f i ≡ pos 0) → sum n f ≡ pos 0
unfolding sum
sum-zero zero f e = refl
sum-zero (suc n) f e = ap₂ ◌+ℤ◌ (sum-zero n f (λ i h. e i (omega arith))) (e n (le_refl (suc n)))

-- The sum of sums term by term.
pub sum-add : (n : ℕ) (f g : ℕ → ℤ) → sum n (λ i. f i +ℤ g i) ≡ sum n f +ℤ sum n g
unfolding sum
sum-add zero f g = refl
sum-add (suc n) f g = simp (sum-add n f g, +ℤ_assoc, +ℤ_left_comm)

-- The sum of the negated terms.
pub sum-neg : (n : ℕ) (f : ℕ → ℤ) → sum n (λ i. neg_ℤ (f i)) ≡ neg_ℤ (sum n f)
unfolding sum
sum-neg zero f = refl
sum-neg (suc n) f = simp (sum-neg n f, neg_ℤ-+ℤ)

-- A factor on the left goes into each term.
pub sum_scale : (n : ℕ) (c : ℤ) (f : ℕ → ℤ) → c *ℤ sum n f ≡ sum n (λ i. c *ℤ f i)
unfolding sum
sum_scale zero c f = *ℤ-zero c
sum_scale (suc n) c f = *ℤ_distl c (sum n f) (f n) ∙ ap (λ (x : ℤ). x +ℤ c *ℤ f n) (sum_scale n c f)

-- So does a factor on the right.
pub sum_scale_r : (n : ℕ) (f : ℕ → ℤ) (c : ℤ) → sum n f *ℤ c ≡ sum n (λ i. f i *ℤ c)
unfolding sum
sum_scale_r zero f c = zero-*ℤ c
sum_scale_r (suc n) f c = *ℤ_distr (sum n f) (f n) c ∙ ap (λ (x : ℤ). x +ℤ f n *ℤ c) (sum_scale_r n f c)

-- A double sum may be taken in either order.
pub sum_swap : (m n : ℕ) (f : ℕ → ℕ → ℤ) → sum m (λ i. sum n (λ j. f i j)) ≡ sum n (λ j. sum m (λ i. f i j))
unfolding sum
sum_swap zero n f = sym (sum-zero n (λ j. pos 0) (λ i h. refl))
sum_swap (suc m) n f =
    ap (λ (x : ℤ). x +ℤ sum n (λ j. f m j)) (sum_swap m n f) ∙ sym (sum-add n (λ j. sum m (λ i. f i j)) (λ j. f m j))

-- A sum in two parts, one after the other.
pub sum_split : (m n : ℕ) (f : ℕ → ℤ) → sum (m + n) f ≡ sum m f +ℤ sum n (λ i. f (m + i))
unfolding sum
sum_split m zero f = ap (λ (k : ℕ). sum k f) (add-zero m) ∙ sym (+ℤ_idr (sum m f))
sum_split m (suc n) f =
    ap (λ (k : ℕ). sum k f) (add-suc m n) ∙ ap (λ (x : ℤ). x +ℤ f (m + n)) (sum_split m n f)
    ∙ +ℤ_assoc (sum m f) (sum n (λ i. f (m + i))) (f (m + n))

-- Terms congruent modulo q have congruent sums.
pub sum_cong : {q : ℕ} (n : ℕ) (f g : ℕ → ℤ) → ((i : ℕ) → i < n → Cong q (f i) (g i)) → Cong q (sum n f) (sum n g)
unfolding sum
sum_cong zero f g c = cong_refl (pos 0)
sum_cong (suc n) f g c = cong_add (sum_cong n f g (λ i h. c i (omega arith))) (c n (le_refl (suc n)))

-- A sum of which one term alone may differ from zero is that term.
pub sum_one : (n : ℕ) (f : ℕ → ℤ) (j : ℕ) → j < n → ((i : ℕ) → i < n → i ≢ j → f i ≡ pos 0) → sum n f ≡ f j
unfolding sum
sum_one zero f j h z = absurd (not-suc-le-zero h)
sum_one (suc n) f j h z = go (ℕ_discrete j n) (λ k. sum_one n f j k (λ i l. z i (omega arith)))
  where
    go : Dec (j ≡ n) → (j < n → sum n f ≡ f j) → sum n f +ℤ f n ≡ f j
    go (yes e) r = ap (λ (x : ℤ). x +ℤ f n) (sum-zero n f (λ i l. z i (omega arith) (omega arith))) ∙ +ℤ_idl (f n) ∙ ap f (sym e)
    go (no d) r =
        ap₂ ◌+ℤ◌ (r (omega arith)) (z n (le_refl (suc n)) (omega arith)) ∙ +ℤ_idr (f j)

-- The absolute value of a sum of n terms, each at most b, is at most n times b.
pub nat_abs_sum : (n b : ℕ) (f : ℕ → ℤ) → ((i : ℕ) → i < n → nat_abs (f i) ≤ b) → nat_abs (sum n f) ≤ n * b
unfolding sum
nat_abs_sum zero b f h = omega arith
nat_abs_sum (suc n) b f h =
    let rest : nat_abs (sum n f) ≤ n * b = nat_abs_sum n b f (λ i l. h i (omega arith)) in
    omega (arith, nat_abs_add (sum n f) (f n), h n (le_refl (suc n)))

-- Laws of the product of a Toeplitz matrix with a vector from three of half the length. Assumes nothing.
use mathlib.Core.Path.{◌≡◌, sym, ap, ap₂, ◌∙◌}
use Prim.Native.Nat.{ℕ, ◌+◌, ◌-◌, ◌<◌}
use native.Mathlib.Omega.{arith}
use lib.IntN.{ℤ, neg_ℤ, ◌+ℤ◌, ◌-ℤ◌, ◌*ℤ◌, +ℤ_comm, -ℤ-+ℤ_cancel}
use Rattle.ring.specs.Integers.{Cong}
use Rattle.ring.specs.Poly.{Poly, sum, plus, minus}
use Rattle.ring.proofs.Integers.{ring, *ℤ_distl, *ℤ_distr, *ℤ-neg_r}
use Rattle.ring.proofs.Modular.{cong_of_eq, cong_refl, cong_trans, cong_add, cong_mul}
use Rattle.ring.proofs.Sums.{sum_ext, sum-add, sum-neg, sum_split, sum_cong}
use Rattle.product.specs.Toeplitz.{toeplitz}

-- The polynomial from place a on.
abbrev pub from : ℕ → Poly → Poly
from a f k = f (a + k)

-- ---- linearity

-- Congruent matrices and vectors have congruent products.
pub toeplitz_cong : {q : ℕ} (n : ℕ) (r r' v v' : Poly) {k : ℕ} → ((i : ℕ) → i < n + n → Cong q (r i) (r' i))
    → ((i : ℕ) → i < n → Cong q (v i) (v' i)) → k < n → Cong q (toeplitz n r v k) (toeplitz n r' v' k)
unfolding toeplitz
toeplitz_cong n r r' v v' {k} hr hv hk =
    sum_cong n (λ i. v i *ℤ r (n - i + k)) (λ i. v' i *ℤ r' (n - i + k))
    (λ i hi.
    let inside : n - i + k < n + n = omega arith in
    cong_mul (hv i hi) (hr (n - i + k) inside))

toeplitz-plus : (n : ℕ) (r v w : Poly) (k : ℕ) → toeplitz n r (plus v w) k ≡ toeplitz n r v k +ℤ toeplitz n r w k
unfolding toeplitz
toeplitz-plus n r v w k =
    sum_ext n _ _ (λ i _. *ℤ_distr (v i) (w i) (r (n - i + k)))
    ∙ sum-add n (λ i. v i *ℤ r (n - i + k)) (λ i. w i *ℤ r (n - i + k))

toeplitz-minus : (n : ℕ) (r s v : Poly) (k : ℕ) → toeplitz n (minus r s) v k ≡ toeplitz n r v k -ℤ toeplitz n s v k
unfolding toeplitz
toeplitz-minus n r s v k =
    sum_ext n _ _ (λ i _. *ℤ_distl (v i) (r (n - i + k)) (neg_ℤ (s (n - i + k)))
    ∙ ap (λ (x : ℤ). v i *ℤ r (n - i + k) +ℤ x) (*ℤ-neg_r (v i) (s (n - i + k))))
    ∙ sum-add n (λ i. v i *ℤ r (n - i + k)) (λ i. neg_ℤ (v i *ℤ s (n - i + k)))
    ∙ ap (λ (x : ℤ). sum n (λ i. v i *ℤ r (n - i + k)) +ℤ x) (sum-neg n (λ i. v i *ℤ s (n - i + k)))

-- ---- halves

-- The upper half of the product, and the lower one.
upper_half : (h : ℕ) (r v : Poly) {k : ℕ} → k < h
    → toeplitz (h + h) r v k ≡ toeplitz h (from h r) v k +ℤ toeplitz h r (from h v) k
unfolding toeplitz
upper_half h r v {k} hk =
    sum_split h h (λ i. v i *ℤ r (h + h - i + k))
    ∙ ap₂ (λ (x y : ℤ). x +ℤ y)
    (sum_ext h _ _ (λ i hi.
    let place : h + h - i + k ≡ h + (h - i + k) = omega arith in
    ap (λ (j : ℕ). v i *ℤ r j) place))
    (sum_ext h _ _ (λ i hi.
    let place : h + h - (h + i) + k ≡ h - i + k = omega arith in
    ap (λ (j : ℕ). v (h + i) *ℤ r j) place))

lower_half : (h : ℕ) (r v : Poly) {k : ℕ} → k < h
    → toeplitz (h + h) r v (h + k) ≡ toeplitz h (from (h + h) r) v k +ℤ toeplitz h (from h r) (from h v) k
unfolding toeplitz
lower_half h r v {k} hk =
    sum_split h h (λ i. v i *ℤ r (h + h - i + (h + k)))
    ∙ ap₂ (λ (x y : ℤ). x +ℤ y)
    (sum_ext h _ _ (λ i hi.
    let place : h + h - i + (h + k) ≡ h + h + (h - i + k) = omega arith in
    ap (λ (j : ℕ). v i *ℤ r j) place))
    (sum_ext h _ _ (λ i hi.
    let place : h + h - (h + i) + (h + k) ≡ h + (h - i + k) = omega arith in
    ap (λ (j : ℕ). v (h + i) *ℤ r j) place))

-- What is taken away comes back.
back : (a x y z : ℤ) → (a +ℤ (x -ℤ y)) +ℤ (z +ℤ y) ≡ a +ℤ (z +ℤ x)
back a x y z =
    let order : (a +ℤ (x -ℤ y)) +ℤ (z +ℤ y) ≡ (a +ℤ z) +ℤ ((x -ℤ y) +ℤ y) = simp ring in
    order ∙ ap (λ (u : ℤ). (a +ℤ z) +ℤ u) (-ℤ-+ℤ_cancel x y) ∙ simp ring

-- The three products of half the length, modulo q: of the middle matrix with both halves added, and of what the others have more
-- than it with one half each.
module _ {q : ℕ} (h : ℕ) (r v both above below : Poly)
    (hb : (i : ℕ) → i < h → Cong q (both i) (plus v (from h v) i))
    (ha : (i : ℕ) → i < h + h → Cong q (above i) (minus r (from h r) i))
    (hc : (i : ℕ) → i < h + h → Cong q (below i) (minus (from (h + h) r) (from h r) i)) where
  middle : {k : ℕ} → k < h
      → Cong q (toeplitz h (from h r) both k) (toeplitz h (from h r) v k +ℤ toeplitz h (from h r) (from h v) k)
  middle {k} hk =
      cong_trans (toeplitz_cong h (from h r) (from h r) both (plus v (from h v)) (λ i _. cong_refl (from h r i)) hb hk)
      (cong_of_eq (toeplitz-plus h (from h r) v (from h v) k))

  pub upper : (a : ℤ) {k : ℕ} → k < h
      → Cong q ((a +ℤ toeplitz h above (from h v) k) +ℤ toeplitz h (from h r) both k) (a +ℤ toeplitz (h + h) r v k)
  upper a {k} hk =
      cong_trans
      (cong_add
      (cong_add (cong_refl a)
      (cong_trans (toeplitz_cong h above (minus r (from h r)) (from h v) (from h v) ha (λ i _. cong_refl (from h v i)) hk)
      (cong_of_eq (toeplitz-minus h r (from h r) (from h v) k))))
      (middle hk))
      (cong_of_eq
      (back a (toeplitz h r (from h v) k) (toeplitz h (from h r) (from h v) k) (toeplitz h (from h r) v k)
      ∙ ap (λ (x : ℤ). a +ℤ x) (sym (upper_half h r v hk))))

  pub lower : (a : ℤ) {k : ℕ} → k < h
      → Cong q ((a +ℤ toeplitz h below v k) +ℤ toeplitz h (from h r) both k) (a +ℤ toeplitz (h + h) r v (h + k))
  lower a {k} hk =
      let x = toeplitz h (from (h + h) r) v k in
      let y = toeplitz h (from h r) v k in
      let z = toeplitz h (from h r) (from h v) k in
      cong_trans
      (cong_add
      (cong_add (cong_refl a)
      (cong_trans (toeplitz_cong h below (minus (from (h + h) r) (from h r)) v v hc (λ i _. cong_refl (v i)) hk)
      (cong_of_eq (toeplitz-minus h (from (h + h) r) (from h r) v k))))
      (middle hk))
      (cong_of_eq
      (ap (λ (u : ℤ). (a +ℤ (x -ℤ y)) +ℤ u) (+ℤ_comm y z) ∙ back a x y z
      ∙ ap (λ (u : ℤ). a +ℤ u) (+ℤ_comm z x ∙ sym (lower_half h r v hk))))

-- The polynomials modulo X^n + 1 are a commutative ring; vectors and matrices of them. All laws are about coefficients k
-- below n. Shifts commute, so a·(b·c) = b·(a·c), and with a·1 = a the product is commutative and associative. Assumes nothing.
use mathlib.Core.Path.{◌≡◌, refl, sym, ap, ap₂, ◌∙◌}
use mathlib.Core.Logic.{◌≢◌}
use mathlib.Core.Bool.{Bool, true, false, not, cond}
use Prim.Native.Nat.{ℕ, zero, suc, ◌+◌, ◌*◌, ◌-◌, ◌≤◌, ◌<◌}
use native.Mathlib.Nat.{add_comm, add-sub_of_le, sub_self, le_refl, not-suc-le-zero, mul-le-mul}
use native.Mathlib.Omega.{arith}
use lib.Dec.{T, leb, leb→le, le→leb, nleb→lt, eqb-suc-zero}
use lib.Arith.{lt→nleb}
use lib.IntN.{ℤ, pos, neg_ℤ, nat_abs, ◌+ℤ◌, ◌-ℤ◌, ◌*ℤ◌, *ℤ-zero, neg_ℤ-+ℤ, neg_ℤ-neg_ℤ}
use Rattle.ring.specs.Integers.{Cong}
use Rattle.ring.specs.Poly.{Poly, sum, shifted, mul, unit, plus, minus, dot, apply, transposed}
use Rattle.ring.proofs.Integers.{*ℤ_distl, *ℤ_distr, *ℤ-neg_l, *ℤ-neg_r, *ℤ_assoc, *ℤ_left_comm, *ℤ_idr}
use Rattle.ring.proofs.Integers.{nat_abs_mul, nat_abs_neg}
use Rattle.ring.proofs.Modular.{cong_neg, cong_mul}
use Rattle.ring.proofs.Sums.{sum_ext, sum-add, sum-neg, sum_scale, sum_scale_r, sum_swap, sum_split, sum_cong}
use Rattle.ring.proofs.Sums.{sum_one, nat_abs_sum}

-- ---- shifts

choose : (t : Bool) (x y : ℤ) → T t → cond t x y ≡ x
choose true x y h = refl
choose false x y h = absurd h

other : (t : Bool) (x y : ℤ) → T (not t) → cond t x y ≡ y
other true x y h = absurd h
other false x y h = refl

-- Coefficient k of X^i times b, from i on.
pub shifted_low : (n : ℕ) (b : Poly) {i k : ℕ} → i ≤ k → shifted n b i k ≡ b (k - i)
unfolding shifted
shifted_low n b {i} {k} h = choose (leb i k) (b (k - i)) (neg_ℤ (b (n + k - i))) (le→leb i k h)

-- And before i.
pub shifted_high : (n : ℕ) (b : Poly) {i k : ℕ} → k < i → shifted n b i k ≡ neg_ℤ (b (n + k - i))
unfolding shifted
shifted_high n b {i} {k} h = other (leb i k) (b (k - i)) (neg_ℤ (b (n + k - i))) (lt→nleb i k h)

-- Either i is at most k, or k is below i.
pub sides : {X : Type 0} (i k : ℕ) → (i ≤ k → X) → (k < i → X) → X
sides {X} i k f g = go (leb i k) (λ t. f (leb→le i k t)) (λ t. g (nleb→lt i k t))
  where
    go : (t : Bool) → (T t → X) → (T (not t) → X) → X
    go true f g = f tt
    go false f g = g tt

shifted_ext : (n : ℕ) (b b' : Poly) {i k : ℕ} → i < n → k < n → ((j : ℕ) → j < n → b j ≡ b' j)
    → shifted n b i k ≡ shifted n b' i k
shifted_ext n b b' {i} {k} hi hk e = sides i k
    (λ h. shifted_low n b h ∙ e (k - i) (omega arith) ∙ sym (shifted_low n b' h))
    (λ h. shifted_high n b h ∙ ap neg_ℤ (e (n + k - i) (omega arith)) ∙ sym (shifted_high n b' h))

shifted_cong : {q : ℕ} (n : ℕ) (b b' : Poly) {i k : ℕ} → i < n → k < n → ((j : ℕ) → j < n → Cong q (b j) (b' j))
    → Cong q (shifted n b i k) (shifted n b' i k)
shifted_cong n b b' {i} {k} hi hk c = sides i k
    (λ h. rw (shifted_low n b h, shifted_low n b' h) (c (k - i) (omega arith)))
    (λ h. rw (shifted_high n b h, shifted_high n b' h) (cong_neg (c (n + k - i) (omega arith))))

shifted-size : (n x : ℕ) (b : Poly) {i k : ℕ} → i < n → k < n → ((j : ℕ) → j < n → nat_abs (b j) ≤ x)
    → nat_abs (shifted n b i k) ≤ x
shifted-size n x b {i} {k} hi hk c = sides i k
    (λ h. rw (shifted_low n b h) (c (k - i) (omega arith)))
    (λ h. rw (shifted_high n b h, nat_abs_neg (b (n + k - i))) (c (n + k - i) (omega arith)))

-- A shift is linear.
shifted-plus : (n : ℕ) (b c : Poly) (i k : ℕ) → shifted n (plus b c) i k ≡ shifted n b i k +ℤ shifted n c i k
unfolding shifted
shifted-plus n b c i k = go (leb i k) (b (k - i)) (b (n + k - i)) (c (k - i)) (c (n + k - i))
  where
    go : (t : Bool) (x y x' y' : ℤ) → cond t (x +ℤ x') (neg_ℤ (y +ℤ y')) ≡ cond t x (neg_ℤ y) +ℤ cond t x' (neg_ℤ y')
    go true x y x' y' = refl
    go false x y x' y' = neg_ℤ-+ℤ y y'

pub shifted_scale : (n : ℕ) (c : ℤ) (b : Poly) (i k : ℕ) → shifted n (λ j. c *ℤ b j) i k ≡ c *ℤ shifted n b i k
unfolding shifted
shifted_scale n c b i k = go (leb i k) (b (k - i)) (b (n + k - i))
  where
    go : (t : Bool) (x y : ℤ) → cond t (c *ℤ x) (neg_ℤ (c *ℤ y)) ≡ c *ℤ cond t x (neg_ℤ y)
    go true x y = refl
    go false x y = sym (*ℤ-neg_r c y)

shifted-neg : (n : ℕ) (b : Poly) (i k : ℕ) → shifted n (λ j. neg_ℤ (b j)) i k ≡ neg_ℤ (shifted n b i k)
unfolding shifted
shifted-neg n b i k = go (leb i k) (b (k - i)) (b (n + k - i))
  where
    go : (t : Bool) (x y : ℤ) → cond t (neg_ℤ x) (neg_ℤ (neg_ℤ y)) ≡ neg_ℤ (cond t x (neg_ℤ y))
    go true x y = refl
    go false x y = refl

pub shifted_sum : (n m : ℕ) (f : ℕ → Poly) (i k : ℕ) → shifted n (λ l. sum m (λ j. f j l)) i k ≡ sum m (λ j. shifted n (f j) i k)
unfolding shifted
shifted_sum n m f i k = go (leb i k) (λ j. f j (k - i)) (λ j. f j (n + k - i))
  where
    go : (t : Bool) (x y : ℕ → ℤ) → cond t (sum m (λ j. x j)) (neg_ℤ (sum m (λ j. y j))) ≡ sum m (λ j. cond t (x j) (neg_ℤ (y j)))
    go true x y = refl
    go false x y = sym (sum-neg m y)

-- Two shifts, by i and j with sum s, in each of their three ranges.
module _ (n : ℕ) (c : Poly) (i j k s : ℕ) (e : s ≡ i + j) (hi : i < n) (hj : j < n) (hk : k < n) where
  twice_low : s ≤ k → shifted n (shifted n c j) i k ≡ c (k - s)
  twice_low h =
      let l : i ≤ k = omega arith in
      let m : j ≤ k - i = omega arith in
      let p : k - i - j ≡ k - s = omega arith in
      shifted_low n (shifted n c j) l ∙ shifted_low n c m ∙ ap c p

  twice_mid : k < s → s ≤ n + k → shifted n (shifted n c j) i k ≡ neg_ℤ (c (n + k - s))
  twice_mid h g = sides i k
      (λ l.
      let m : k - i < j = omega arith in
      let p : n + (k - i) - j ≡ n + k - s = omega arith in
      shifted_low n (shifted n c j) l ∙ shifted_high n c m ∙ ap (λ (x : ℕ). neg_ℤ (c x)) p)
      (λ l.
      let m : j ≤ n + k - i = omega arith in
      let p : n + k - i - j ≡ n + k - s = omega arith in
      shifted_high n (shifted n c j) l ∙ ap neg_ℤ (shifted_low n c m ∙ ap c p))

  twice_high : n + k < s → shifted n (shifted n c j) i k ≡ c (n + n + k - s)
  twice_high h =
      let l : k < i = omega arith in
      let m : n + k - i < j = omega arith in
      let p : n + (n + k - i) - j ≡ n + n + k - s = omega arith in
      shifted_high n (shifted n c j) l ∙ ap neg_ℤ (shifted_high n c m) ∙ neg_ℤ-neg_ℤ (c (n + (n + k - i) - j)) ∙ ap c p

-- Shifts commute.
shifted_comm : (n : ℕ) (c : Poly) {i j k : ℕ} → i < n → j < n → k < n
    → shifted n (shifted n c j) i k ≡ shifted n (shifted n c i) j k
shifted_comm n c {i} {j} {k} hi hj hk =
    let e : i + j ≡ j + i = add_comm i j in
    sides (i + j) k
    (λ h. twice_low n c i j k (i + j) refl hi hj hk h ∙ sym (twice_low n c j i k (i + j) e hj hi hk h))
    (λ h. sides (i + j) (n + k)
    (λ g. twice_mid n c i j k (i + j) refl hi hj hk h g ∙ sym (twice_mid n c j i k (i + j) e hj hi hk h g))
    (λ g. twice_high n c i j k (i + j) refl hi hj hk g ∙ sym (twice_high n c j i k (i + j) e hj hi hk g)))

-- ---- the product

-- Coefficient k is the sum over i ≤ k of a_i b_(k−i) less the sum over i from k + 1 to n − 1 of a_i b_(n+k−i).
pub mul_read : (n : ℕ) (a b : Poly) {k : ℕ} → k < n
    → mul n a b k ≡ sum (suc k) (λ i. a i *ℤ b (k - i)) -ℤ sum (n - suc k) (λ j. a (suc k + j) *ℤ b (n + k - (suc k + j)))
unfolding mul
mul_read n a b {k} h =
    ap (λ (m : ℕ). sum m (λ i. a i *ℤ shifted n b i k)) (sym (add-sub_of_le h))
    ∙ sum_split (suc k) (n - suc k) (λ i. a i *ℤ shifted n b i k)
    ∙ ap₂ ◌+ℤ◌ (sum_ext (suc k) (λ i. a i *ℤ shifted n b i k) (λ i. a i *ℤ b (k - i)) low)
    (sum_ext (n - suc k) (λ j. a (suc k + j) *ℤ shifted n b (suc k + j) k) (λ j. neg_ℤ (term j)) high ∙ sum-neg (n - suc k) term)
  where
    term : ℕ → ℤ
    term j = a (suc k + j) *ℤ b (n + k - (suc k + j))

    low : (i : ℕ) → i < suc k → a i *ℤ shifted n b i k ≡ a i *ℤ b (k - i)
    low i l = ap (λ (x : ℤ). a i *ℤ x) (shifted_low n b (omega arith))

    high : (j : ℕ) → j < n - suc k → a (suc k + j) *ℤ shifted n b (suc k + j) k ≡ neg_ℤ (term j)
    high j l =
        ap (λ (x : ℤ). a (suc k + j) *ℤ x) (shifted_high n b (omega arith)) ∙ *ℤ-neg_r (a (suc k + j)) (b (n + k - (suc k + j)))

-- Only the coefficients below n count.
pub mul_ext : (n : ℕ) (a a' b b' : Poly) {k : ℕ} → ((i : ℕ) → i < n → a i ≡ a' i) → ((i : ℕ) → i < n → b i ≡ b' i) → k < n
    → mul n a b k ≡ mul n a' b' k
unfolding mul
mul_ext n a a' b b' {k} ea eb h =
    sum_ext n (λ i. a i *ℤ shifted n b i k) (λ i. a' i *ℤ shifted n b' i k) (λ i l. ap₂ ◌*ℤ◌ (ea i l) (shifted_ext n b b' l h eb))

-- Congruent factors have congruent products.
pub mul_cong : {q : ℕ} (n : ℕ) (a a' b b' : Poly) {k : ℕ} → ((i : ℕ) → i < n → Cong q (a i) (a' i))
    → ((i : ℕ) → i < n → Cong q (b i) (b' i)) → k < n → Cong q (mul n a b k) (mul n a' b' k)
unfolding mul
mul_cong n a a' b b' {k} ca cb h =
    sum_cong n (λ i. a i *ℤ shifted n b i k) (λ i. a' i *ℤ shifted n b' i k)
    (λ i l. cong_mul (ca i l) (shifted_cong n b b' l h cb))

-- The product is distributive in its second factor.
pub mul-plus_r : (n : ℕ) (a b c : Poly) (k : ℕ) → mul n a (plus b c) k ≡ mul n a b k +ℤ mul n a c k
unfolding mul
mul-plus_r n a b c k = simp (shifted-plus n b c, *ℤ_distl) (sum-add n (λ i. a i *ℤ shifted n b i k) (λ i. a i *ℤ shifted n c i k))

-- And in its first factor.
pub mul-plus_l : (n : ℕ) (a b c : Poly) (k : ℕ) → mul n (plus a b) c k ≡ mul n a c k +ℤ mul n b c k
unfolding mul
mul-plus_l n a b c k = simp *ℤ_distr (sum-add n (λ i. a i *ℤ shifted n c i k) (λ i. b i *ℤ shifted n c i k))

-- A negated second factor negates the product.
pub mul-neg_r : (n : ℕ) (a b : Poly) (k : ℕ) → mul n a (λ j. neg_ℤ (b j)) k ≡ neg_ℤ (mul n a b k)
unfolding mul
mul-neg_r n a b k = simp (shifted-neg n b, *ℤ-neg_r) (sum-neg n (λ i. a i *ℤ shifted n b i k))

-- So does a negated first factor.
pub mul-neg_l : (n : ℕ) (a b : Poly) (k : ℕ) → mul n (λ j. neg_ℤ (a j)) b k ≡ neg_ℤ (mul n a b k)
unfolding mul
mul-neg_l n a b k = simp *ℤ-neg_l (sum-neg n (λ i. a i *ℤ shifted n b i k))

-- Differences in the second factor.
pub mul-minus_r : (n : ℕ) (a b c : Poly) (k : ℕ) → mul n a (minus b c) k ≡ mul n a b k -ℤ mul n a c k
mul-minus_r n a b c k = mul-plus_r n a b (λ j. neg_ℤ (c j)) k ∙ ap (λ (x : ℤ). mul n a b k +ℤ x) (mul-neg_r n a c k)

-- Differences in the first factor.
pub mul-minus_l : (n : ℕ) (a b c : Poly) (k : ℕ) → mul n (minus a b) c k ≡ mul n a c k -ℤ mul n b c k
mul-minus_l n a b c k = mul-plus_l n a (λ j. neg_ℤ (b j)) c k ∙ ap (λ (x : ℤ). mul n a c k +ℤ x) (mul-neg_l n b c k)

-- A constant goes out of the first factor.
pub mul_scale : (n : ℕ) (c : ℤ) (a b : Poly) (k : ℕ) → mul n (λ i. c *ℤ a i) b k ≡ c *ℤ mul n a b k
unfolding mul
mul_scale n c a b k = simp *ℤ_assoc (sym (sum_scale n c (λ i. a i *ℤ shifted n b i k)))

-- And out of the second.
pub mul_scale_r : (n : ℕ) (c : ℤ) (a b : Poly) (k : ℕ) → mul n a (λ i. c *ℤ b i) k ≡ c *ℤ mul n a b k
unfolding mul
mul_scale_r n c a b k =
    sum_ext n (λ i. a i *ℤ shifted n (λ j. c *ℤ b j) i k) (λ i. c *ℤ (a i *ℤ shifted n b i k))
    (λ i h. ap (λ (x : ℤ). a i *ℤ x) (shifted_scale n c b i k) ∙ *ℤ_left_comm (a i) c (shifted n b i k))
    ∙ sym (sum_scale n c (λ i. a i *ℤ shifted n b i k))

-- A sum of first factors.
pub mul-sum_l : (n m : ℕ) (f : ℕ → Poly) (b : Poly) (k : ℕ) → mul n (λ i. sum m (λ j. f j i)) b k ≡ sum m (λ j. mul n (f j) b k)
unfolding mul
mul-sum_l n m f b k =
    sum_ext n (λ i. sum m (λ j. f j i) *ℤ shifted n b i k) (λ i. sum m (λ j. f j i *ℤ shifted n b i k))
    (λ i h. sum_scale_r m (λ j. f j i) (shifted n b i k))
    ∙ sum_swap n m (λ i j. f j i *ℤ shifted n b i k)

-- Times one.
pub mul-unit_r : (n : ℕ) (a : Poly) {k : ℕ} → k < n → mul n a unit k ≡ a k
unfolding mul unit
mul-unit_r n a {k} h =
    sum_one n (λ i. a i *ℤ shifted n unit i k) k h (λ i l d. ap (λ (x : ℤ). a i *ℤ x) (none i l d) ∙ *ℤ-zero (a i))
    ∙ ap (λ (x : ℤ). a k *ℤ x) (shifted_low n unit (le_refl k) ∙ ap unit (sub_self k)) ∙ *ℤ_idr (a k)
  where
    past : (j : ℕ) → 0 < j → unit j ≡ pos 0
    past zero l = absurd (not-suc-le-zero l)
    past (suc j) l = ap (λ (t : Bool). cond t (pos 1) (pos 0)) (eqb-suc-zero j)

    none : (i : ℕ) → i < n → i ≢ k → shifted n unit i k ≡ pos 0
    none i l d = sides i k
        (λ g. shifted_low n unit g ∙ past (k - i) (omega arith))
        (λ g. shifted_high n unit g ∙ ap neg_ℤ (past (n + k - i) (omega arith)))

-- A product in a product, as a double sum.
double : (n : ℕ) (a b c : Poly) (k : ℕ)
    → mul n a (mul n b c) k ≡ sum n (λ i. sum n (λ j. a i *ℤ (b j *ℤ shifted n (shifted n c j) i k)))
unfolding mul
double n a b c k =
    sum_ext n (λ i. a i *ℤ shifted n (mul n b c) i k) (λ i. sum n (λ j. a i *ℤ (b j *ℤ shifted n (shifted n c j) i k)))
    (λ i h. ap (λ (x : ℤ). a i *ℤ x)
    (shifted_sum n n (λ j l. b j *ℤ shifted n c j l) i k
    ∙ sum_ext n (λ j. shifted n (λ l. b j *ℤ shifted n c j l) i k) (λ j. b j *ℤ shifted n (shifted n c j) i k)
    (λ j l. shifted_scale n (b j) (shifted n c j) i k))
    ∙ sum_scale n (a i) (λ j. b j *ℤ shifted n (shifted n c j) i k))

-- The first two of three factors change places.
pub mul_left_comm : (n : ℕ) (a b c : Poly) {k : ℕ} → k < n → mul n a (mul n b c) k ≡ mul n b (mul n a c) k
mul_left_comm n a b c {k} h =
    double n a b c k ∙ sum_swap n n (λ i j. a i *ℤ (b j *ℤ shifted n (shifted n c j) i k))
    ∙ sum_ext n (λ j. sum n (λ i. a i *ℤ (b j *ℤ shifted n (shifted n c j) i k)))
    (λ j. sum n (λ i. b j *ℤ (a i *ℤ shifted n (shifted n c i) j k)))
    (λ j hj. sum_ext n (λ i. a i *ℤ (b j *ℤ shifted n (shifted n c j) i k)) (λ i. b j *ℤ (a i *ℤ shifted n (shifted n c i) j k))
    (λ i hi. *ℤ_left_comm (a i) (b j) (shifted n (shifted n c j) i k)
    ∙ ap (λ (x : ℤ). b j *ℤ (a i *ℤ x)) (shifted_comm n c hi hj h)))
    ∙ sym (double n b a c k)

-- The product is commutative.
pub mul_comm : (n : ℕ) (a b : Poly) {k : ℕ} → k < n → mul n a b k ≡ mul n b a k
mul_comm n a b h =
    mul_ext n a a b (mul n b unit) (λ i l. refl) (λ i l. sym (mul-unit_r n b l)) h ∙ mul_left_comm n a b unit h
    ∙ mul_ext n b b (mul n a unit) a (λ i l. refl) (λ i l. mul-unit_r n a l) h

-- One times.
pub mul-unit_l : (n : ℕ) (a : Poly) {k : ℕ} → k < n → mul n unit a k ≡ a k
mul-unit_l n a h = mul_comm n unit a h ∙ mul-unit_r n a h

-- The product is associative.
pub mul_assoc : (n : ℕ) (a b c : Poly) {k : ℕ} → k < n → mul n (mul n a b) c k ≡ mul n a (mul n b c) k
mul_assoc n a b c h =
    mul_comm n (mul n a b) c h ∙ mul_left_comm n c a b h
    ∙ mul_ext n a a (mul n c b) (mul n b c) (λ i l. refl) (λ i l. mul_comm n c b l) h

-- The last two of three factors change places.
pub mul_right_comm : (n : ℕ) (a b c : Poly) {k : ℕ} → k < n → mul n (mul n a b) c k ≡ mul n (mul n a c) b k
mul_right_comm n a b c h =
    mul_assoc n a b c h ∙ mul_ext n a a (mul n b c) (mul n c b) (λ i l. refl) (λ i l. mul_comm n b c l) h
    ∙ sym (mul_assoc n a c b h)

-- Coefficients at most x and y give coefficients of the product at most n · x · y.
pub nat_abs_mul_poly : (n x y : ℕ) (a b : Poly) {k : ℕ} → ((i : ℕ) → i < n → nat_abs (a i) ≤ x)
    → ((i : ℕ) → i < n → nat_abs (b i) ≤ y) → k < n → nat_abs (mul n a b k) ≤ n * (x * y)
unfolding mul
nat_abs_mul_poly n x y a b {k} ha hb h =
    nat_abs_sum n (x * y) (λ i. a i *ℤ shifted n b i k)
    (λ i l. rw (nat_abs_mul (a i) (shifted n b i k)) (mul-le-mul (ha i l) (shifted-size n y b l h hb)))

-- ---- vectors and matrices

-- Only the entries below ℓ and their coefficients below n count.
pub dot_ext : (ℓ n : ℕ) (u u' v v' : ℕ → Poly) {k : ℕ} → ((i j : ℕ) → i < ℓ → j < n → u i j ≡ u' i j)
    → ((i j : ℕ) → i < ℓ → j < n → v i j ≡ v' i j) → k < n → dot ℓ n u v k ≡ dot ℓ n u' v' k
unfolding dot
dot_ext ℓ n u u' v v' {k} eu ev h =
    sum_ext ℓ (λ i. mul n (u i) (v i) k) (λ i. mul n (u' i) (v' i) k)
    (λ i l. mul_ext n (u i) (u' i) (v i) (v' i) (λ j m. eu i j l m) (λ j m. ev i j l m) h)

-- Congruent vectors have congruent products.
pub dot_cong : {q : ℕ} (ℓ n : ℕ) (u u' v v' : ℕ → Poly) {k : ℕ} → ((i j : ℕ) → i < ℓ → j < n → Cong q (u i j) (u' i j))
    → ((i j : ℕ) → i < ℓ → j < n → Cong q (v i j) (v' i j)) → k < n → Cong q (dot ℓ n u v k) (dot ℓ n u' v' k)
unfolding dot
dot_cong ℓ n u u' v v' {k} cu cv h =
    sum_cong ℓ (λ i. mul n (u i) (v i) k) (λ i. mul n (u' i) (v' i) k)
    (λ i l. mul_cong n (u i) (u' i) (v i) (v' i) (λ j m. cu i j l m) (λ j m. cv i j l m) h)

-- The product of vectors is commutative.
pub dot_comm : (ℓ n : ℕ) (u v : ℕ → Poly) {k : ℕ} → k < n → dot ℓ n u v k ≡ dot ℓ n v u k
unfolding dot
dot_comm ℓ n u v {k} h = sum_ext ℓ (λ i. mul n (u i) (v i) k) (λ i. mul n (v i) (u i) k) (λ i l. mul_comm n (u i) (v i) h)

-- It is distributive in its second factor.
pub dot-plus_r : (ℓ n : ℕ) (u v w : ℕ → Poly) (k : ℕ) → dot ℓ n u (λ i. plus (v i) (w i)) k ≡ dot ℓ n u v k +ℤ dot ℓ n u w k
unfolding dot
dot-plus_r ℓ n u v w k =
    sum_ext ℓ (λ i. mul n (u i) (plus (v i) (w i)) k) (λ i. mul n (u i) (v i) k +ℤ mul n (u i) (w i) k)
    (λ i l. mul-plus_r n (u i) (v i) (w i) k)
    ∙ sum-add ℓ (λ i. mul n (u i) (v i) k) (λ i. mul n (u i) (w i) k)

-- And in its first factor.
pub dot-plus_l : (ℓ n : ℕ) (u v w : ℕ → Poly) (k : ℕ) → dot ℓ n (λ i. plus (u i) (v i)) w k ≡ dot ℓ n u w k +ℤ dot ℓ n v w k
unfolding dot
dot-plus_l ℓ n u v w k =
    sum_ext ℓ (λ i. mul n (plus (u i) (v i)) (w i) k) (λ i. mul n (u i) (w i) k +ℤ mul n (v i) (w i) k)
    (λ i l. mul-plus_l n (u i) (v i) (w i) k)
    ∙ sum-add ℓ (λ i. mul n (u i) (w i) k) (λ i. mul n (v i) (w i) k)

-- A matrix times a vector, times a vector, as a double sum.
apply-dot : (ℓ n : ℕ) (A : ℕ → ℕ → Poly) (r s : ℕ → Poly) (k : ℕ)
    → dot ℓ n (apply ℓ n A r) s k ≡ sum ℓ (λ i. sum ℓ (λ j. mul n (mul n (A i j) (r j)) (s i) k))
unfolding dot
apply-dot ℓ n A r s k =
    sum_ext ℓ (λ i. mul n (apply ℓ n A r i) (s i) k) (λ i. sum ℓ (λ j. mul n (mul n (A i j) (r j)) (s i) k))
    (λ i l. mul-sum_l n ℓ (λ j. mul n (A i j) (r j)) (s i) k)

-- (A r)·s = (Aᵀ s)·r, for matrices of any size.
pub transpose_moves : (ℓ n : ℕ) (A : ℕ → ℕ → Poly) (r s : ℕ → Poly) {k : ℕ} → k < n
    → dot ℓ n (apply ℓ n A r) s k ≡ dot ℓ n (apply ℓ n (transposed A) s) r k
transpose_moves ℓ n A r s {k} h =
    apply-dot ℓ n A r s k ∙ sum_swap ℓ ℓ (λ i j. mul n (mul n (A i j) (r j)) (s i) k)
    ∙ sum_ext ℓ (λ j. sum ℓ (λ i. mul n (mul n (A i j) (r j)) (s i) k)) (λ j. sum ℓ (λ i. mul n (mul n (A i j) (s i)) (r j) k))
    (λ j hj. sum_ext ℓ (λ i. mul n (mul n (A i j) (r j)) (s i) k) (λ i. mul n (mul n (A i j) (s i)) (r j) k)
    (λ i hi. mul_right_comm n (A i j) (r j) (s i) h))
    ∙ sym (apply-dot ℓ n (transposed A) s r k)

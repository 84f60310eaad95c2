-- Laws of the integers that lib.IntN does not have: the product is distributive, associative and has 1; absolute values.
-- Assumes nothing.
use mathlib.Core.Path.{◌≡◌, refl, sym, ap, ◌∙◌}
use mathlib.Core.Bool.{Bool, true, false, cond}
use Prim.Native.Nat.{ℕ, zero, suc, ◌+◌, ◌*◌, ◌-◌, ◌≤◌}
use native.Mathlib.Nat as NatL
use native.Mathlib.Omega.{arith}
use lib.Dec.{ltb}
use lib.IntN.{ℤ, pos, negsuc, neg_ℤ, nat_abs, sub_ℕ, ℤ_ind, ◌+ℤ◌, ◌-ℤ◌, +ℤ_assoc, +ℤ_comm, +ℤ_idl, +ℤ_idr, +ℤ_invl, +ℤ_one, -ℤ_one}
use lib.IntN.{neg_ℤ-+ℤ, neg_ℤ-neg_ℤ, +ℤ-neg_ℤ_cancel, -ℤ-+ℤ_cancel, ◌*ℤ◌, *ℤ_comm, suc_ℤ-*ℤ, pred_ℤ-*ℤ, zero-*ℤ, *ℤ-zero}
use lib.Signed.{mag}

-- The first two of three summands change places.
pub +ℤ_left_comm : (a b c : ℤ) → a +ℤ (b +ℤ c) ≡ b +ℤ (a +ℤ c)
+ℤ_left_comm a b c = sym (+ℤ_assoc a b c) ∙ ap (λ (x : ℤ). x +ℤ c) (+ℤ_comm a b) ∙ +ℤ_assoc b a c

-- The same integer added on both sides can be left out.
pub +ℤ_cancel : (a b c : ℤ) → a +ℤ c ≡ b +ℤ c → a ≡ b
+ℤ_cancel a b c e = sym (+ℤ-neg_ℤ_cancel a c) ∙ ap (λ (x : ℤ). x -ℤ c) e ∙ +ℤ-neg_ℤ_cancel b c

-- ---- the product

succ_r : (m k : ℤ) → (m +ℤ pos 1) *ℤ k ≡ m *ℤ k +ℤ k
succ_r m k = ap (λ (x : ℤ). x *ℤ k) (+ℤ_one m) ∙ suc_ℤ-*ℤ m k

pred_r : (m k : ℤ) → (m +ℤ neg_ℤ (pos 1)) *ℤ k ≡ m *ℤ k +ℤ neg_ℤ k
pred_r m k = ap (λ (x : ℤ). x *ℤ k) (-ℤ_one m) ∙ pred_ℤ-*ℤ m k

abbrev Law : ℤ → ℤ → ℤ → Type 0
Law b c a = a *ℤ (b +ℤ c) ≡ a *ℤ b +ℤ a *ℤ c

-- A product is distributive over a sum in its second factor.
pub *ℤ_distl : (a b c : ℤ) → a *ℤ (b +ℤ c) ≡ a *ℤ b +ℤ a *ℤ c
*ℤ_distl a b c = ℤ_ind (Law b c) (simp (zero-*ℤ, +ℤ_idl)) (λ n. up (pos n)) (λ n. down (neg_ℤ (pos n))) a
  where
    up : (m : ℤ) → Law b c m → Law b c (m +ℤ pos 1)
    up m e = simp (succ_r, e, +ℤ_assoc, +ℤ_left_comm)

    down : (m : ℤ) → Law b c m → Law b c (m +ℤ neg_ℤ (pos 1))
    down m e = simp (pred_r, e, neg_ℤ-+ℤ, +ℤ_assoc, +ℤ_left_comm)

-- And over a sum in its first factor.
pub *ℤ_distr : (a b c : ℤ) → (a +ℤ b) *ℤ c ≡ a *ℤ c +ℤ b *ℤ c
*ℤ_distr a b c = simp (*ℤ_comm (a +ℤ b) c, *ℤ_distl, *ℤ_comm a c, *ℤ_comm b c)

-- Once an integer is that integer.
pub *ℤ_idl : (a : ℤ) → pos 1 *ℤ a ≡ a
*ℤ_idl a = succ_r (pos 0) a ∙ simp (zero-*ℤ, +ℤ_idl)

-- An integer times one is that integer.
pub *ℤ_idr : (a : ℤ) → a *ℤ pos 1 ≡ a
*ℤ_idr a = *ℤ_comm a (pos 1) ∙ *ℤ_idl a

-- The sign of the first factor is that of the product.
pub *ℤ-neg_l : (a b : ℤ) → neg_ℤ a *ℤ b ≡ neg_ℤ (a *ℤ b)
*ℤ-neg_l a b =
    +ℤ_cancel (neg_ℤ a *ℤ b) (neg_ℤ (a *ℤ b)) (a *ℤ b)
    (sym (*ℤ_distr (neg_ℤ a) a b) ∙ ap (λ (x : ℤ). x *ℤ b) (+ℤ_invl a) ∙ zero-*ℤ b ∙ sym (+ℤ_invl (a *ℤ b)))

-- So is the sign of the second factor.
pub *ℤ-neg_r : (a b : ℤ) → a *ℤ neg_ℤ b ≡ neg_ℤ (a *ℤ b)
*ℤ-neg_r a b = *ℤ_comm a (neg_ℤ b) ∙ *ℤ-neg_l b a ∙ ap neg_ℤ (*ℤ_comm b a)

-- A product of three may be bracketed either way.
pub *ℤ_assoc : (a b c : ℤ) → (a *ℤ b) *ℤ c ≡ a *ℤ (b *ℤ c)
*ℤ_assoc a b c = ℤ_ind (λ (x : ℤ). (x *ℤ b) *ℤ c ≡ x *ℤ (b *ℤ c)) (simp zero-*ℤ) (λ n. up (pos n)) (λ n. down (neg_ℤ (pos n))) a
  where
    up : (m : ℤ) → (m *ℤ b) *ℤ c ≡ m *ℤ (b *ℤ c) → ((m +ℤ pos 1) *ℤ b) *ℤ c ≡ (m +ℤ pos 1) *ℤ (b *ℤ c)
    up m e = simp (succ_r, *ℤ_distr, e)

    down : (m : ℤ) → (m *ℤ b) *ℤ c ≡ m *ℤ (b *ℤ c) → ((m +ℤ neg_ℤ (pos 1)) *ℤ b) *ℤ c ≡ (m +ℤ neg_ℤ (pos 1)) *ℤ (b *ℤ c)
    down m e = simp (pred_r, *ℤ_distr, *ℤ-neg_l, e)

-- The first two of three factors change places.
pub *ℤ_left_comm : (a b c : ℤ) → a *ℤ (b *ℤ c) ≡ b *ℤ (a *ℤ c)
*ℤ_left_comm a b c = sym (*ℤ_assoc a b c) ∙ ap (λ (x : ℤ). x *ℤ c) (*ℤ_comm a b) ∙ *ℤ_assoc b a c

-- Sums of products in one order: `simp ring` proves the equations of a commutative ring that cancel nothing.
pub ruleset ring = (
  +ℤ_assoc,
  +ℤ_comm,
  +ℤ_left_comm,
  +ℤ_idl,
  +ℤ_idr,
  neg_ℤ-+ℤ,
  neg_ℤ-neg_ℤ,
  *ℤ_assoc,
  *ℤ_comm,
  *ℤ_left_comm,
  *ℤ_idl,
  *ℤ_idr,
  zero-*ℤ,
  *ℤ-zero,
  *ℤ_distl,
  *ℤ_distr,
  *ℤ-neg_l,
  *ℤ-neg_r,
)

-- ---- numbers among the integers, and absolute values

-- A difference of numbers that is not cut off is that of the integers.
pub pos-sub : {a b : ℕ} → b ≤ a → pos (a - b) ≡ pos a -ℤ pos b
pos-sub {a} {b} h =
    +ℤ_cancel (pos (a - b)) (pos a -ℤ pos b) (pos b)
    (ap pos (NatL.sub-add_cancel h) ∙ sym (-ℤ-+ℤ_cancel (pos a) (pos b)))

-- An integer and its negation have the same absolute value.
pub nat_abs_neg : (x : ℤ) → nat_abs (neg_ℤ x) ≡ nat_abs x
nat_abs_neg (pos zero) = refl
nat_abs_neg (pos (suc n)) = refl
nat_abs_neg (negsuc n) = refl

-- The absolute value of a product is the product of the absolute values.
pub nat_abs_mul : (x y : ℤ) → nat_abs (x *ℤ y) ≡ nat_abs x * nat_abs y
nat_abs_mul (pos a) (pos b) = refl
nat_abs_mul (pos a) (negsuc b) = nat_abs_neg (pos (a * suc b))
nat_abs_mul (negsuc a) (pos b) = nat_abs_neg (pos (suc a * b))
nat_abs_mul (negsuc a) (negsuc b) = refl

either : (b : Bool) (x y : ℤ) (n : ℕ) → nat_abs x ≤ n → nat_abs y ≤ n → nat_abs (cond b x y) ≤ n
either true x y n h k = h
either false x y n h k = k

nat_abs_sub : (a b : ℕ) → nat_abs (sub_ℕ a (suc b)) ≤ a + suc b
nat_abs_sub a b = either (ltb a (suc b)) (negsuc (suc b - suc a)) (pos (a - suc b)) (a + suc b) (omega arith) (omega arith)

-- The absolute value of a sum is at most the sum of the absolute values.
pub nat_abs_add : (x y : ℤ) → nat_abs (x +ℤ y) ≤ nat_abs x + nat_abs y
nat_abs_add (pos a) (pos b) = NatL.le_refl (a + b)
nat_abs_add (pos a) (negsuc b) = nat_abs_sub a b
nat_abs_add (negsuc a) (pos b) = rw (NatL.add_comm (suc a) b) (nat_abs_sub b a)
nat_abs_add (negsuc a) (negsuc b) = omega arith

-- The magnitude that bounds a signed width is at most the absolute value.
pub mag_le : (z : ℤ) → mag z ≤ nat_abs z
mag_le (pos n) = NatL.le_refl n
mag_le (negsuc n) = NatL.le-suc n

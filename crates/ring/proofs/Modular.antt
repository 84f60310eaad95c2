-- Laws of congruence modulo q and of residues. Assumes nothing.
use mathlib.Core.Path.{◌≡◌, refl, sym, ap, ◌∙◌}
use Prim.Native.Nat.{ℕ, suc, ◌+◌, ◌*◌, ◌-◌, ◌/◌, ◌%◌, ◌^◌, ◌≤◌, ◌<◌}
use native.Mathlib.Nat.{mod-add-div, mod-lt, mod-eq_of_lt, add-mul-mod_self_left, add-sub_of_le, mul-pos}
use native.Mathlib.Numerals.{add-one}
use native.Mathlib.Omega.{arith}
use lib.IntN.{ℤ, pos, negsuc, neg_ℤ, ◌+ℤ◌, ◌-ℤ◌, ◌*ℤ◌, +ℤ_comm, +ℤ_idr, +ℤ-neg_ℤ_cancel, -ℤ-+ℤ_cancel, *ℤ-zero}
use lib.Pow.{pow_pos, pow-add}
use Rattle.ring.specs.Integers.{Cong, residue, centred}
use Rattle.ring.proofs.Integers.{ring, pos-sub, *ℤ_idr, *ℤ-neg_r, *ℤ_assoc}

-- ---- congruence

-- Equal integers are congruent.
pub cong_of_eq : {q : ℕ} {x y : ℤ} → x ≡ y → Cong q x y
cong_of_eq {q} {x} {y} e = record { times = pos 0; differ = e ∙ simp (*ℤ-zero, +ℤ_idr) }

-- Each integer is congruent to itself.
pub cong_refl : {q : ℕ} (x : ℤ) → Cong q x x
cong_refl x = cong_of_eq refl

-- Congruence holds both ways round.
pub cong_sym : {q : ℕ} {x y : ℤ} → Cong q x y → Cong q y x
cong_sym {q} {x} {y} c = record {
  times = neg_ℤ c.times;
  differ = sym (+ℤ-neg_ℤ_cancel y (pos q *ℤ c.times)) ∙ ap (λ (z : ℤ). z -ℤ pos q *ℤ c.times) (sym c.differ) ∙ simp *ℤ-neg_r;
}

-- What is congruent to the same is congruent.
pub cong_trans : {q : ℕ} {x y z : ℤ} → Cong q x y → Cong q y z → Cong q x z
cong_trans {q} c d = record { times = c.times +ℤ d.times; differ = c.differ ∙ rw d.differ (simp ring) }

-- Sums of congruent integers are congruent.
pub cong_add : {q : ℕ} {x y x' y' : ℤ} → Cong q x y → Cong q x' y' → Cong q (x +ℤ x') (y +ℤ y')
cong_add c d = record { times = c.times +ℤ d.times; differ = rw (c.differ, d.differ) (simp ring) }

-- Negations of congruent integers are congruent.
pub cong_neg : {q : ℕ} {x y : ℤ} → Cong q x y → Cong q (neg_ℤ x) (neg_ℤ y)
cong_neg c = record { times = neg_ℤ c.times; differ = rw c.differ (simp ring) }

-- Differences of congruent integers are congruent.
pub cong_sub : {q : ℕ} {x y x' y' : ℤ} → Cong q x y → Cong q x' y' → Cong q (x -ℤ x') (y -ℤ y')
cong_sub c d = cong_add c (cong_neg d)

-- Products of congruent integers are congruent.
pub cong_mul : {q : ℕ} {x y x' y' : ℤ} → Cong q x y → Cong q x' y' → Cong q (x *ℤ x') (y *ℤ y')
cong_mul {q} {x} {y} {x'} {y'} c d = record {
  times = y *ℤ d.times +ℤ c.times *ℤ y' +ℤ c.times *ℤ (pos q *ℤ d.times);
  differ = rw (c.differ, d.differ) (simp ring);
}

-- A multiple of q changes nothing modulo q.
pub cong_multiple : (q : ℕ) (x m : ℤ) → Cong q (x +ℤ pos q *ℤ m) x
cong_multiple q x m = record { times = m; differ = refl }

-- What is congruent modulo a multiple of q is so modulo q.
pub cong_divisor : (q d : ℕ) {x y : ℤ} → Cong (q * d) x y → Cong q x y
cong_divisor q d {x} {y} c = record {
  times = pos d *ℤ c.times;
  differ = c.differ ∙ ap (λ (z : ℤ). y +ℤ z) (*ℤ_assoc (pos q) (pos d) c.times);
}

-- The same for powers of two.
pub cong_power : (i j : ℕ) {x y : ℤ} → i ≤ j → Cong (2 ^ j) x y → Cong (2 ^ i) x y
cong_power i j {x} {y} h c = cong_divisor (2 ^ i) (2 ^ (j - i)) (rw (← pow-add 2 i (j - i), add-sub_of_le h) c)

-- A number modulo q is congruent to it.
pub cong_mod : (q n : ℕ) → Cong q (pos (n % q)) (pos n)
cong_mod q n = cong_sym (record { times = pos (n / q); differ = ap pos (sym (mod-add-div n q)) })

-- q less b is −b modulo q.
pub cong_complement : {q b : ℕ} → b ≤ q → Cong q (pos (q - b)) (neg_ℤ (pos b))
cong_complement {q} {b} h = record { times = pos 1; differ = pos-sub h ∙ +ℤ_comm (pos q) (neg_ℤ (pos b)) ∙ simp *ℤ_idr }

-- A number below q that is congruent to another below q equals it.
pub cong_below : {q m n : ℕ} → m < q → n < q → Cong q (pos m) (pos n) → m ≡ n
unfolding cong_sym
cong_below {q} {m} {n} h k c = go c.times c.differ
  where
    up : (a b t : ℕ) → a < q → b < q → pos a ≡ pos b +ℤ pos q *ℤ pos t → a ≡ b
    up a b t h k e =
        let e' : a ≡ b + q * t = cc in
        sym (mod-eq_of_lt h) ∙ ap (λ (z : ℕ). z % q) e' ∙ add-mul-mod_self_left b q t ∙ mod-eq_of_lt k

    go : (t : ℤ) → pos m ≡ pos n +ℤ pos q *ℤ t → m ≡ n
    go (pos t) e = up m n t h k e
    go (negsuc t) e =
        let back : Cong q (pos m) (pos n) = record { times = negsuc t; differ = e } in
        sym (up n m (suc t) k h (cong_sym back).differ)

-- ---- residues

-- The residue of a number is its remainder.
pub residue-pos : (q n : ℕ) → residue q (pos n) ≡ n % q
unfolding residue
residue-pos q n = refl

-- A number below q is its own residue.
pub residue-small : {q n : ℕ} → n < q → residue q (pos n) ≡ n
residue-small {q} {n} h = residue-pos q n ∙ mod-eq_of_lt h

-- The residue of x is congruent to x.
pub residue_cong : {q : ℕ} → 0 < q → (x : ℤ) → Cong q (pos (residue q x)) x
unfolding residue
residue_cong {q} h (pos n) = cong_mod q n
residue_cong {q} h (negsuc n) =
    let below : n % q < q = mod-lt n h in
    let less : suc (n % q) ≤ q = below in
    let step : (a : ℕ) → pos a +ℤ pos 1 ≡ pos (suc a) = λ a. ap pos (add-one a) in
    let more : Cong q (pos (suc (n % q))) (pos (suc n)) =
    rw (← step (n % q), ← step n) (cong_add (cong_mod q n) (cong_refl (pos 1))) in
    cong_trans (cong_of_eq (ap pos (gap q (n % q)))) (cong_trans (cong_complement less) (cong_neg more))
  where
    gap : (a b : ℕ) → (a - 1) - b ≡ a - suc b
    gap a b = omega arith

-- The residue is below q.
pub residue_below : {q : ℕ} → 0 < q → (x : ℤ) → residue q x < q
unfolding residue
residue_below h (pos n) = mod-lt n h
residue_below h (negsuc n) = omega arith

-- The residue is the only number below q that is congruent to x.
pub residue_unique : {q m : ℕ} {x : ℤ} → m < q → Cong q (pos m) x → m ≡ residue q x
residue_unique {q} {m} {x} h c =
    let some : 0 < q = omega arith in
    cong_below h (residue_below some x) (cong_trans c (cong_sym (residue_cong some x)))

-- Congruent integers have the same residue.
pub residue-eq : {q : ℕ} {x y : ℤ} → 0 < q → Cong q x y → residue q x ≡ residue q y
residue-eq {q} {x} {y} h c = residue_unique (residue_below h x) (cong_trans (residue_cong h x) c)

-- A number modulo q is the residue of what it is congruent to.
pub mod-residue : {q m : ℕ} {x : ℤ} → 0 < q → Cong q (pos m) x → m % q ≡ residue q x
mod-residue {q} {m} h c = residue_unique (mod-lt m h) (cong_trans (cong_mod q m) c)

-- The residue modulo a multiple of q, taken modulo q.
pub residue-mod : {q d : ℕ} → 0 < q → 0 < d → (x : ℤ) → residue (q * d) x % q ≡ residue q x
residue-mod {q} {d} h k x = mod-residue h (cong_divisor q d (residue_cong (mul-pos h k) x))

-- The same for powers of two.
pub residue_power : (i j : ℕ) → i ≤ j → (x : ℤ) → residue (2 ^ j) x % 2 ^ i ≡ residue (2 ^ i) x
residue_power i j h x = mod-residue (pow_pos i) (cong_power i j h (residue_cong (pow_pos j) x))

-- A residue plus a number, modulo q.
pub residue-add : {q : ℕ} → 0 < q → (a : ℕ) (x y : ℤ) → Cong q (pos a) y → (residue q x + a) % q ≡ residue q (x +ℤ y)
residue-add h a x y c = mod-residue h (cong_add (residue_cong h x) c)

-- A residue plus a number times another, modulo q.
pub residue_term : {q : ℕ} → 0 < q → (a r : ℕ) (x y : ℤ) → Cong q (pos r) y
    → (residue q x + a * r) % q ≡ residue q (x +ℤ pos a *ℤ y)
residue_term h a r x y c = residue-add h (a * r) x (pos a *ℤ y) (cong_mul (cong_refl (pos a)) c)

-- A number plus another, modulo q.
pub residue-plus_nat : {q : ℕ} → 0 < q → (m a : ℕ) (y : ℤ) → Cong q (pos a) y → (m + a) % q ≡ residue q (pos m +ℤ y)
residue-plus_nat h m a y c = mod-residue h (cong_add (cong_refl (pos m)) c)

-- A value less p, plus p again, modulo q.
pub centred_back : {q : ℕ} → 0 < q → (p v : ℕ) → (residue q (centred p v) + p) % q ≡ v % q
centred_back {q} h p v =
    residue-add h p (centred p v) (pos p) (cong_refl (pos p)) ∙ ap (residue q) (-ℤ-+ℤ_cancel (pos v) (pos p)) ∙ residue-pos q v

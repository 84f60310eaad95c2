-- Laws of the size of integers: those that a signed word holds, the largest absolute value of a list, and the test of an
-- interval. Assumes nothing.
use mathlib.Core.Path.{◌≡◌, refl, sym, ap, ap₂, ◌∙◌}
use mathlib.Core.Bool.{Bool, true, false, ◌&&◌}
use mathlib.Core.List.{List, [], ◌∷◌, ◌++◌}
use Prim.Native.Nat.{ℕ, zero, suc, ◌+◌, ◌*◌, ◌^◌, ◌≤◌, ◌<◌, max, zero-le, suc-le-suc}
use native.Mathlib.Nat.{zero-add, lt_of_le_of_lt, le_trans, le_refl, not-suc-le-zero, le_of_suc-le-suc, mul-le-mul, mul-le-mul_right}
use native.Mathlib.Nat.{le-add_left, max-zero, le-max_left, le-max_right, max-le}
use native.Mathlib.Omega.{arith}
use borrow.Author.Tests.{ltb-true, lt-ltb, le-ltb}
use lib.Dec.{T, ltb}
use lib.IntN.{ℤ, pos, negsuc, neg_ℤ, nat_abs, ◌+ℤ◌, ◌-ℤ◌, ◌*ℤ◌, +ℤ_one, +ℤ_comm, neg_ℤ-+ℤ, neg_ℤ-neg_ℤ}
use lib.ListN.{length, get_or, take, replicate}
use lib.Seq.{take-suc}
use lib.Signed.{mag, lt_z, non_neg}
use mir.Syntax.{Width, w16, w32}
use mir.Val.{SFits, hbits, to_z, of_z}
use mir.ValLaws.{to_z-of_z}
use Rattle.keccak.proofs.Entries.{tabulate_at, length-tabulate}
use Rattle.ring.proofs.Ring.{sides}
use Rattle.ring.proofs.Integers.{mag_le, nat_abs_mul, nat_abs_neg, pos-sub}
use Rattle.ring.proofs.Sums.{nat_abs_sum}
use Rattle.ring.specs.Poly.{sum, of_ints}
use Rattle.bits.specs.Bits.{Below}
use Rattle.ring.specs.Coefficients.{centred_integers}
use Rattle.ring.specs.Integers.{centred, largest, between, all_between}
use Rattle.ring.specs.Terms.{terms, Terms}

-- ---- signed words

pub fits_abs : (w : Width) (z : ℤ) → nat_abs z < 2 ^ hbits w → SFits w z
fits_abs w z h = record { sfits = lt_of_le_of_lt (mag_le z) h }

abs_mag : (z : ℤ) → nat_abs z ≤ suc (mag z)
abs_mag (pos n) = omega arith
abs_mag (negsuc n) = omega arith

abs_fits : (w : Width) (z : ℤ) → SFits w z → nat_abs z ≤ 2 ^ hbits w
abs_fits w z h = le_trans (abs_mag z) h.sfits

pub wider : {z : ℤ} → SFits w16 z → SFits w32 z
wider h = record { sfits = omega (arith, h.sfits) }

-- The product of two words of 16 bits.
pub product_fits : (x y : ℤ) → SFits w16 x → SFits w16 y → SFits w32 (x *ℤ y)
product_fits x y hx hy =
    let most : nat_abs x * nat_abs y ≤ 32768 * 32768 = mul-le-mul (abs_fits w16 x hx) (abs_fits w16 y hy) in
    fits_abs w32 (x *ℤ y) (rw (nat_abs_mul x y) (omega arith))

-- A value up to m away from p, centred by p.
pub abs-centred : {m : ℕ} (p v : ℕ) → p ≤ m → v ≤ p + m → nat_abs (centred p v) ≤ m
abs-centred {m} p v hp hv = sides p v (λ h. rw (← pos-sub h) (omega arith))
    (λ h.
    let other : centred p v ≡ neg_ℤ (pos p -ℤ pos v) =
    sym (neg_ℤ-+ℤ (pos p) (neg_ℤ (pos v)) ∙ ap (λ (x : ℤ). neg_ℤ (pos p) +ℤ x) (neg_ℤ-neg_ℤ (pos v)) ∙ +ℤ_comm (neg_ℤ (pos p)) (pos v))
    in
    let less : v ≤ p = omega arith in
    rw (other, nat_abs_neg, ← pos-sub less) (omega arith))

pub difference_fits : {x y : ℕ} → x < 32768 → y < 32768 → SFits w16 (pos x -ℤ pos y)
difference_fits {x} {y} hx hy =
    let size : nat_abs (pos x -ℤ pos y) ≤ 32767 = abs-centred y x (omega arith) (omega arith) in
    fits_abs w16 (pos x -ℤ pos y) (suc-le-suc size)

-- ---- absolute values

-- A negative number.
pub below_zero : (x : ℤ) → lt_z x (pos 0) ≡ true → pos 0 -ℤ (x +ℤ pos 1) ≡ pos (mag x)
below_zero (pos n) h = absurd (not-suc-le-zero (ltb-true n 0 h))
below_zero (negsuc zero) h = refl
below_zero (negsuc (suc n)) h = rw (+ℤ_one (negsuc (suc n))) (ap pos (zero-add (suc n)))

pub above_size : (x : ℤ) → lt_z x (pos 0) ≡ true → mag (x +ℤ pos 1) ≤ mag x
above_size (pos n) h = absurd (not-suc-le-zero (ltb-true n 0 h))
above_size (negsuc zero) h = zero-le
above_size (negsuc (suc n)) h = rw (+ℤ_one (negsuc (suc n))) (omega arith)

pub abs_below_zero : (x : ℤ) → lt_z x (pos 0) ≡ true → mag x + 1 ≡ nat_abs x
abs_below_zero (pos n) h = absurd (not-suc-le-zero (ltb-true n 0 h))
abs_below_zero (negsuc n) h = omega arith

pub not_below_zero : (x : ℤ) → lt_z x (pos 0) ≡ false → T (non_neg x)
not_below_zero (pos n) h = tt
not_below_zero (negsuc n) h = absurd (let z : ◌≡◌ {A = ℕ} 0 1 = cc in omega arith)

pub abs-not_below : (x : ℤ) → lt_z x (pos 0) ≡ false → nat_abs x ≡ mag x
abs-not_below (pos n) h = refl
abs-not_below (negsuc n) h = absurd (let z : ◌≡◌ {A = ℕ} 0 1 = cc in omega arith)

-- ---- the largest of a list

largest-append : (xs ys : List ℤ) → largest (xs ++ ys) ≡ max (largest xs) (largest ys)
unfolding largest
largest-append [] ys = omega arith
largest-append (x ∷ xs) ys = ap (max (nat_abs x)) (largest-append xs ys) ∙ together (nat_abs x) (largest xs) (largest ys)
  where
    together : (a b c : ℕ) → max a (max b c) ≡ max (max a b) c
    together a b c = omega arith

-- One entry more.
pub largest_more : (xs : List ℤ) (i : ℕ) (d : ℤ) → i < length xs → largest (take (suc i) xs) ≡
    max (largest (take i xs)) (nat_abs (get_or xs i d))
unfolding largest
largest_more xs i d h =
    ap largest (take-suc xs i d h) ∙ largest-append (take i xs) (get_or xs i d ∷ []) ∙
    ap (max (largest (take i xs))) (max-zero (nat_abs (get_or xs i d)))

-- No entry is larger.
pub le-largest : (xs : List ℤ) (i : ℕ) → nat_abs (get_or xs i (pos 0)) ≤ largest xs
unfolding largest
le-largest [] i = zero-le
le-largest (x ∷ xs) zero = le-max_left (nat_abs x) (largest xs)
le-largest (x ∷ xs) (suc i) = le_trans (le-largest xs i) (le-max_right (nat_abs x) (largest xs))

-- Nothing smaller bounds them all.
pub largest-le : (xs : List ℤ) (m : ℕ) → ((i : ℕ) → i < length xs → nat_abs (get_or xs i (pos 0)) ≤ m) → largest xs ≤ m
unfolding largest
largest-le [] m h = zero-le
largest-le (x ∷ xs) m h = max-le (h zero (suc-le-suc zero-le)) (largest-le xs m (λ i k. h (suc i) (suc-le-suc k)))

pub largest_zeros : (n : ℕ) → largest (replicate n (pos 0)) ≡ 0
unfolding largest
largest_zeros zero = refl
largest_zeros (suc n) = rw (largest_zeros n)

-- Values up to m away from p, centred by p.
pub largest-centred : (p m : ℕ) (vs : List ℕ) → p ≤ m → Below (suc (p + m)) vs → largest (centred_integers p vs) ≤ m
largest-centred p m vs hp hv =
    let f : ℕ → ℤ = λ k. centred p (get_or vs k 0) in
    largest-le (centred_integers p vs) m
    (λ i h.
    let inside : i < length vs = rw (length-tabulate (length vs) f) at h in
    rw (tabulate_at (length vs) f i (pos 0) inside) (abs-centred p (get_or vs i 0) hp (le_of_suc-le-suc (hv i))))

-- The sum of the first j products of entries, and that a word holds it.
dot-size : (a b : List ℤ) (j : ℕ) → nat_abs (sum j (λ i. of_ints a i *ℤ of_ints b i)) ≤ j * (largest a * largest b)
dot-size a b j =
    nat_abs_sum j (largest a * largest b) (λ i. of_ints a i *ℤ of_ints b i)
    (λ i _. rw (nat_abs_mul (of_ints a i) (of_ints b i)) (mul-le-mul (le-largest a i) (le-largest b i)))

pub dot_fits : (a b : List ℤ) (j n : ℕ) → j ≤ n → n * (largest a * largest b) < 2 ^ 31
    → SFits w32 (sum j (λ i. of_ints a i *ℤ of_ints b i))
dot_fits a b j n h k =
    fits_abs w32 (sum j (λ i. of_ints a i *ℤ of_ints b i))
    (lt_of_le_of_lt (le_trans (dot-size a b j) (mul-le-mul h (le_refl (largest a * largest b)))) k)

-- A term is at most the product of the largest entries.
term_size : (a b : List ℤ) (i : ℕ) → nat_abs (terms a b i) ≤ largest a * largest b
term_size a b i = rw (nat_abs_mul (of_ints a i) (of_ints b i)) (mul-le-mul (le-largest a i) (le-largest b i))

-- Up to m terms from place i on fit a word.
pub terms_fit : (a b : List ℤ) (i m k : ℕ) → Terms a b i m → k ≤ m → SFits w32 (sum k (λ j. terms a b (i + j)))
terms_fit a b i m k t h =
    let L : ℕ = largest a * largest b in
    let most : k * L ≤ length a * L = mul-le-mul_right L (le_trans h (le_trans (le-add_left m i) t.there)) in
    fits_abs w32 (sum k (λ j. terms a b (i + j)))
    (lt_of_le_of_lt (le_trans (nat_abs_sum k L (λ j. terms a b (i + j)) (λ j _. term_size a b (i + j))) most) t.small)

-- What adding two words gives, where they are x and y.
pub word_sum : {x y r s : ℤ} → SFits w32 r → SFits w32 s → r ≡ x → s ≡ y → to_z w32 (of_z w32 r) +ℤ to_z w32 (of_z w32 s) ≡ x +ℤ y
word_sum {r = r} {s = s} fr fs er es = ap₂ ◌+ℤ◌ (to_z-of_z w32 r fr ∙ er) (to_z-of_z w32 s fs ∙ es)

-- The product of two entries that are words is a term.
pub term_read : (a b : List ℤ) (i : ℕ) → SFits w16 (of_ints a i) → SFits w16 (of_ints b i)
    → to_z w16 (of_z w16 (of_ints a i)) *ℤ to_z w16 (of_z w16 (of_ints b i)) ≡ terms a b i
term_read a b i fa fb = ap₂ ◌*ℤ◌ (to_z-of_z w16 (of_ints a i) fa) (to_z-of_z w16 (of_ints b i) fb)

-- ---- intervals

and_assoc : (a b c : Bool) → ((a && b) && c) ≡ (a && (b && c))
and_assoc true b c = refl
and_assoc false b c = refl

and-true : (a : Bool) → (a && true) ≡ a
and-true true = refl
and-true false = refl

all_append : (low high : ℤ) (xs ys : List ℤ) → all_between low high (xs ++ ys) ≡ (all_between low high xs && all_between low high ys)
unfolding all_between
all_append low high [] ys = refl
all_append low high (x ∷ xs) ys =
    ap (λ (t : Bool). between low high x && t) (all_append low high xs ys)
    ∙ sym (and_assoc (between low high x) (all_between low high xs) (all_between low high ys))

-- One entry more.
pub all_more : (low high : ℤ) (xs : List ℤ) (i : ℕ) (d : ℤ) → i < length xs
    → all_between low high (take (suc i) xs) ≡ (all_between low high (take i xs) && between low high (get_or xs i d))
unfolding all_between
all_more low high xs i d h =
    ap (all_between low high) (take-suc xs i d h) ∙ all_append low high (take i xs) (get_or xs i d ∷ [])
    ∙ ap (λ (t : Bool). all_between low high (take i xs) && t) (and-true (between low high (get_or xs i d)))

-- Two numbers are below m where the larger one is.
both_below : (a c m : ℕ) → (ltb a m && ltb c m) ≡ ltb (max a c) m
both_below a c m =
    sides m a (λ h. rw (le-ltb a m h) (sym (le-ltb (max a c) m (omega arith))))
    (λ h. rw (lt-ltb a m h)
    (sides m c (λ k. le-ltb c m k ∙ sym (le-ltb (max a c) m (omega arith)))
    (λ k. lt-ltb c m k ∙ sym (lt-ltb (max a c) m (omega arith)))))

between-size : (b : ℕ) (x : ℤ) → between (negsuc b) (pos (suc b)) x ≡ ltb (nat_abs x) (suc b)
between-size b (pos n) = refl
between-size b (negsuc n) =
    and-true (ltb n b)
    ∙ sides b n (λ h. le-ltb n b h ∙ sym (le-ltb (suc n) (suc b) (suc-le-suc h)))
    (λ h. lt-ltb n b h ∙ sym (lt-ltb (suc n) (suc b) (suc-le-suc h)))

-- All lie strictly between −m and m, m = b + 1, where the largest absolute value is below m.
pub all-between-size : (b : ℕ) (xs : List ℤ) → all_between (negsuc b) (pos (suc b)) xs ≡ ltb (largest xs) (suc b)
unfolding all_between largest
all-between-size b [] = sym (lt-ltb 0 (suc b) (suc-le-suc zero-le))
all-between-size b (x ∷ xs) = ap₂ ◌&&◌ (between-size b x) (all-between-size b xs) ∙ both_below (nat_abs x) (largest xs) (suc b)

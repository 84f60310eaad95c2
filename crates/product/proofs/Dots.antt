-- Laws of a product as that of a Toeplitz matrix, and of sums of products, as a loop over the products builds them. Assumes nothing.
use mathlib.Core.Path.{◌≡◌, sym, ap, ◌∙◌}
use mathlib.Core.List.{List, ◌++◌}
use Prim.Native.Nat.{ℕ, suc, ◌+◌, ◌-◌, ◌*◌, ◌≤◌, ◌<◌, suc-le-suc, zero-le}
use native.Mathlib.Nat.{add-sub_cancel_left, mul-le-mul_left, mul-le-mul, mul-suc, mul_comm}
use native.Mathlib.Numerals.{add-one}
use native.Mathlib.Omega.{arith}
use lib.IntN.{pos, neg_ℤ, ◌*ℤ◌, +ℤ_assoc, +ℤ_idr}
use lib.ListN.{length, get_or, take, drop, length-append}
use lib.Seq.{get_or-take, get_or-drop, take-append_seam}
use Rattle.bits.specs.Bits.{Below}
use Rattle.ring.specs.Poly.{Poly, sum, plus, shifted, mul, dot, parts, of_nats, residues}
use Rattle.ring.specs.Integers.{Cong}
use Rattle.ring.specs.Coefficients.{with_product}
use Rattle.ring.specs.Terms.{doubled}
use Rattle.product.specs.Dots.{Factors, with_dot}
use Rattle.product.specs.Toeplitz.{toeplitz, with_toeplitz}
use Rattle.ring.proofs.Modular.{cong_add, cong_mul, cong_of_eq, cong_refl, cong_trans}
use Rattle.ring.proofs.Residues.{length-residues, residues_ext, residues_cong, residues_of_list, of_nats-residues}
use Rattle.ring.proofs.Sums.{sum_cong}
use Rattle.ring.proofs.Product.{doubled_at}
use Rattle.ring.proofs.Ring.{mul_ext}

-- Entry k of column i of the matrix of b.
doubled_entry : (n : ℕ) (b : List ℕ) → length b ≡ n → (i k : ℕ) → i < n → k < n
    → Cong 65536 (of_nats (doubled b) (n - i + k)) (shifted n (of_nats b) i k)
doubled_entry n b e i k hi hk = rw (← e) (doubled_at b i k (rw e hi) (rw e hk))

-- The matrix of b, from its doubled row, times a is the product.
pub product_of_row : (acc a b row none : List ℕ) → Factors acc a b → row ≡ doubled b
    → with_toeplitz acc (take (2 * length acc) (row ++ none)) a ≡ with_product acc a b
unfolding with_toeplitz toeplitz mul
product_of_row acc a b row none p e =
    let n = length acc in
    let same : length b ≡ n = p.second in
    let long : 2 * n ≡ length row = sym (ap length e ∙ length-append (residues 65536 (length b) (λ k. neg_ℤ (of_nats b k))) b
    ∙ rw (length-residues, same) (omega arith))
    in
    let front : take (2 * n) (row ++ none) ≡ doubled b = ap (λ (m : ℕ). take m (row ++ none)) long ∙ take-append_seam row none ∙ e in
    ap (λ (r : List ℕ). residues 65536 n (plus (of_nats acc) (λ k. sum n (λ i. of_nats a i *ℤ of_nats r (n - i + k))))) front
    ∙ residues_cong (suc-le-suc zero-le) n _ _ (λ k hk.
    cong_add (cong_refl (of_nats acc k))
    (sum_cong n _ _ (λ i hi. cong_mul (cong_refl (of_nats a i)) (doubled_entry n b same i k hi hk))))

-- No product is added yet.
pub dot_none : (acc f s : List ℕ) → Below 65536 acc → acc ≡ with_dot 0 acc f s
unfolding with_dot dot sum
dot_none acc f s b =
    sym (residues_of_list 65536 acc b)
    ∙ residues_ext 65536 (length acc) (of_nats acc) _ (λ k h. sym (+ℤ_idr (of_nats acc k)))

-- Entry x of part i.
part_at : (n i x : ℕ) (f : List ℕ) → x < n → get_or (take n (drop (i * n) f)) x 0 ≡ get_or f (i * n + x) 0
part_at n i x f h = get_or-take n (drop (i * n) f) x 0 h ∙ get_or-drop (i * n) f x 0

-- One product more.
dot_more : (i : ℕ) (acc ys f s : List ℕ) → length ys ≡ length acc → ys ≡ with_dot i acc f s
    → with_product ys (take (length acc) (drop (i * length acc) f)) (take (length acc) (drop (i * length acc) s)) ≡ with_dot (suc i) acc f s
unfolding with_dot dot sum
dot_more i acc ys f s long e =
    let n : ℕ = length acc in
    let f' : Poly = of_nats (take n (drop (i * n) f)) in
    let s' : Poly = of_nats (take n (drop (i * n) s)) in
    let before : Poly = plus (of_nats acc) (dot i n (parts n f) (parts n s)) in
    ap (λ (m : ℕ). residues 65536 m (plus (of_nats ys) (mul m f' s'))) long
    ∙ residues_cong (suc-le-suc zero-le) n _ _ (λ k h.
    cong_trans
    (cong_add
    (cong_trans (cong_of_eq (ap (λ (l : List ℕ). of_nats l k) e)) (of_nats-residues (suc-le-suc zero-le) n before h))
    (cong_of_eq (mul_ext n f' (parts n f i) s' (parts n s i) (λ x l. ap pos (part_at n i x f l)) (λ x l. ap pos (part_at n i x s l)) h)))
    (cong_of_eq (+ℤ_assoc (of_nats acc k) (dot i n (parts n f) (parts n s) k) (mul n (parts n f i) (parts n s i) k))))

-- Part i lies within m parts, which are few.
pub row_fits : {i m : ℕ} (n : ℕ) → i < m → i * n + n ≤ m * n
row_fits {i} {m} n h = omega (arith, mul-le-mul_left n h, mul-suc n i, mul_comm n i, mul_comm n m)

pub rows_few : {m n : ℕ} → m ≤ 8 → n ≤ 512 → m * n ≤ 4096
rows_few h l = mul-le-mul h l

-- A turn of the loop adds one product.
pub dot_turn : (i : ℕ) (acc ys zs f s : List ℕ) → length ys ≡ length acc → ys ≡ with_dot i acc f s
    → zs ≡ with_product ys (take (i * length acc + length acc - i * length acc) (drop (i * length acc) f))
    (take (i * length acc + length acc - i * length acc) (drop (i * length acc) s))
    → zs ≡ with_dot (i + 1) acc f s
dot_turn i acc ys zs f s long h product =
    let again : zs ≡ with_product ys (take (length acc) (drop (i * length acc) f)) (take (length acc) (drop (i * length acc) s))
    = rw (add-sub_cancel_left (i * length acc) (length acc)) at product in
    again ∙ dot_more i acc ys f s long h ∙ ap (λ (m : ℕ). with_dot m acc f s) (sym (add-one i))

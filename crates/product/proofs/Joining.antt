-- Laws of the lists that the product by halves reads and leaves, modulo 2^16. Assumes nothing.
use mathlib.Core.Path.{◌≡◌, refl, sym, ap, ap₂, ◌∙◌}
use mathlib.Core.List.{List, ◌++◌}
use Prim.Native.Nat.{ℕ, zero, suc, ◌+◌, ◌-◌, ◌<◌, zero-le, suc-le-suc}
use native.Mathlib.Nat.{zero-add}
use native.Mathlib.Omega.{arith}
use lib.IntN.{pos, ◌+ℤ◌, ◌-ℤ◌, +ℤ_idl}
use lib.ListN.{length, get_or, take, drop, replicate, length-drop, length-replicate}
use lib.Seq.{get_or-take, get_or-drop, length-take-le, take-append_seam, drop-append_seam}
use Rattle.keccak.specs.Lists.{patched}
use Rattle.keccak.proofs.Entries.{tabulate-add}
use Rattle.keccak.proofs.Parts.{patched-rest, take_rest}
use Rattle.ring.specs.Integers.{Cong, residue}
use Rattle.ring.specs.Poly.{Poly, plus, minus, of_nats, residues}
use Rattle.ring.specs.Coefficients.{added}
use Rattle.ring.proofs.Modular.{cong_of_eq, cong_refl, cong_trans, cong_add}
use Rattle.ring.proofs.Residues.{length-residues, of_nats-residues, residues_cong}
use Rattle.product.specs.Toeplitz.{toeplitz, with_toeplitz, Matrix}
use Rattle.product.specs.Halves.{folded, row_difference}
use Rattle.product.proofs.Columns.{window_at}
use Rattle.product.proofs.Halving.{from, toeplitz_cong, upper, lower}

some : 0 < 65536
some = suc-le-suc zero-le

-- ---- parts of lists

zeros_long : {n : ℕ} {xs : List ℕ} → xs ≡ replicate n 0 → length xs ≡ n
zeros_long {n} e = ap length e ∙ length-replicate n 0

-- The entries from place h on, and a list that has others there, as a part that is lent and comes back leaves them.
abbrev pub rest : {A : Type 0} → ℕ → List A → List A
rest h xs = take (length xs - h) (drop h xs)

abbrev pub put_rest : {A : Type 0} → ℕ → List A → List A → List A
put_rest h ys xs = patched h (length xs - h) ys xs

rest_at : (h : ℕ) (xs : List ℕ) (k : ℕ) → of_nats (rest h xs) k ≡ from h (of_nats xs) k
rest_at h xs k = ap (λ (l : List ℕ). of_nats l k) (take_rest h xs) ∙ ap pos (get_or-drop h xs k 0)

take_at : (h : ℕ) (xs : List ℕ) {k : ℕ} → k < h → of_nats (take h xs) k ≡ of_nats xs k
take_at h xs {k} hk = ap pos (get_or-take h xs k 0 hk)

-- The first half, and the second, of a list of two.
first_of : {A : Type 0} (h : ℕ) (ys zs : List A) → length ys ≡ h → take h (ys ++ zs) ≡ ys
first_of h ys zs l = ap (λ (m : ℕ). take m (ys ++ zs)) (sym l) ∙ take-append_seam ys zs

second_of : {A : Type 0} (h : ℕ) (ys zs : List A) → length ys ≡ h → drop h (ys ++ zs) ≡ zs
second_of h ys zs l = ap (λ (m : ℕ). drop m (ys ++ zs)) (sym l) ∙ drop-append_seam ys zs

-- Both halves are replaced, one after the other.
replaced : {A : Type 0} (h : ℕ) (xs ys zs : List A) → length ys ≡ h → put_rest h zs (ys ++ drop h xs) ≡ ys ++ zs
replaced {A} h xs ys zs l = patched-rest h zs (ys ++ drop h xs) ∙ ap (λ (l : List A). l ++ zs) (first_of h ys (drop h xs) l)

-- ---- what the parts hold

-- Entry k of such a sum.
with_at : (h : ℕ) (acc row v : List ℕ) {ys : List ℕ} → length acc ≡ h → ys ≡ with_toeplitz acc row v → {k : ℕ} → k < h
    → Cong 65536 (of_nats ys k) (of_nats acc k +ℤ toeplitz h (of_nats row) (of_nats v) k)
unfolding with_toeplitz
with_at h acc row v l e {k} hk =
    let whole = e ∙ ap (λ (m : ℕ). residues 65536 m (plus (of_nats acc) (toeplitz m (of_nats row) (of_nats v)))) l in
    cong_trans (cong_of_eq (ap (λ (r : List ℕ). of_nats r k) whole))
    (of_nats-residues some h (plus (of_nats acc) (toeplitz h (of_nats row) (of_nats v))) hk)

with_long : (h : ℕ) (acc row v : List ℕ) {ys : List ℕ} → length acc ≡ h → ys ≡ with_toeplitz acc row v → length ys ≡ h
unfolding with_toeplitz
with_long h acc row v l e =
    ap length e ∙ length-residues 65536 (length acc) (plus (of_nats acc) (toeplitz (length acc) (of_nats row) (of_nats v))) ∙ l

pub nothing_at : {A : Type 0} (none : A) (h k : ℕ) → get_or (replicate h none) k none ≡ none
nothing_at none zero zero = refl
nothing_at none zero (suc k) = refl
nothing_at none (suc h) zero = refl
nothing_at none (suc h) (suc k) = nothing_at none h k

-- Where there was nothing, the product alone.
from_nothing : (h : ℕ) (none row v : List ℕ) {ys : List ℕ} → none ≡ replicate h 0 → ys ≡ with_toeplitz none row v → {k : ℕ} → k < h
    → Cong 65536 (of_nats ys k) (toeplitz h (of_nats row) (of_nats v) k)
from_nothing h none row v en e {k} hk =
    cong_trans (with_at h none row v (zeros_long en) e hk)
    (cong_of_eq
    (ap (λ (x : ℕ). pos x +ℤ toeplitz h (of_nats row) (of_nats v) k) (ap (λ (l : List ℕ). get_or l k 0) en ∙ nothing_at 0 h k)
    ∙ +ℤ_idl (toeplitz h (of_nats row) (of_nats v) k)))

-- A product that is summed up apart, from nothing, and then added.
pub sums_added : (h : ℕ) (acc none row v : List ℕ) {sums : List ℕ} → length acc ≡ h → none ≡ replicate h 0 → sums ≡ with_toeplitz none row v
    → added acc sums ≡ with_toeplitz acc row v
unfolding with_toeplitz
sums_added h acc none row v {sums} l en e =
    residues_cong some (length acc) (plus (of_nats acc) (of_nats sums)) (plus (of_nats acc) (toeplitz (length acc) (of_nats row) (of_nats v)))
    (λ k hk.
    let inside : k < h = omega arith in
    cong_add (cong_refl (of_nats acc k))
    (cong_trans (from_nothing h none row v en e inside)
    (cong_of_eq (ap (λ (n : ℕ). toeplitz n (of_nats row) (of_nats v) k) (sym l)))))

-- ---- the whole

-- The sum of the whole, half by half.
whole : (h : ℕ) (acc row v : List ℕ) → length acc ≡ h + h
    → residues 65536 h (plus (of_nats acc) (toeplitz (h + h) (of_nats row) (of_nats v)))
    ++ residues 65536 h (from h (plus (of_nats acc) (toeplitz (h + h) (of_nats row) (of_nats v)))) ≡ with_toeplitz acc row v
unfolding residues with_toeplitz
whole h acc row v l =
    let f : Poly = plus (of_nats acc) (toeplitz (h + h) (of_nats row) (of_nats v)) in
    sym (tabulate-add h h (λ k. residue 65536 (f k)))
    ∙ ap (λ (n : ℕ). residues 65536 n (plus (of_nats acc) (toeplitz n (of_nats row) (of_nats v)))) (sym l)

-- The sum that is left in both halves is that of the whole matrix and vector.
joined : (h : ℕ) (acc row v : List ℕ) {both none mid above t below b t' b' : List ℕ} → Matrix (h + h) acc row v
    → none ≡ replicate h 0
    → both ≡ folded h v
    → mid ≡ with_toeplitz none (take (h + (h + h) - h) (drop h row)) both
    → above ≡ row_difference 0 h (h + h) row
    → t ≡ with_toeplitz (take h acc) above (rest h v)
    → below ≡ row_difference (h + h) h (h + h) row
    → b ≡ with_toeplitz (rest h (t ++ drop h acc)) below (take h v)
    → t' ≡ added (take h (put_rest h b (t ++ drop h acc))) mid
    → b' ≡ added (rest h (t' ++ drop h (put_rest h b (t ++ drop h acc)))) mid
    → put_rest h b' (t' ++ drop h (put_rest h b (t ++ drop h acc))) ≡ with_toeplitz acc row v
unfolding folded row_difference
joined h acc row v {both} {none} {mid} {above} {t} {below} {b} {t'} {b'} m en eo em ea et eb ebb et' eb' =
    let r : Poly = of_nats row in
    let f : Poly = of_nats v in
    let acc-long : length acc ≡ h + h = m.sum_long in
    let take_long : length (take h acc) ≡ h = length-take-le h acc (omega arith) in
    let t-long : length t ≡ h = with_long h (take h acc) above (rest h v) take_long et in
    let second : rest h (t ++ drop h acc) ≡ drop h acc = take_rest h (t ++ drop h acc) ∙ second_of h t (drop h acc) t-long in
    let drop-long : length (drop h acc) ≡ h = simp length-drop (omega arith) in
    let b-long : length b ≡ h = with_long h (rest h (t ++ drop h acc)) below (take h v) (ap length second ∙ drop-long) ebb in
    let halves : put_rest h b (t ++ drop h acc) ≡ t ++ b = replaced h acc t b t-long in
    let t'-is : t' ≡ added t mid = et' ∙ ap (λ (l : List ℕ). added l mid) (ap (take h) halves ∙ first_of h t b t-long) in
    let t'-long : length t' ≡ h = ap length t'-is ∙ length-residues 65536 (length t) (plus (of_nats t) (of_nats mid)) ∙ t-long in
    let second' : drop h (put_rest h b (t ++ drop h acc)) ≡ b = ap (drop h) halves ∙ second_of h t b t-long in
    let b'-is : b' ≡ added b mid =
    eb'
    ∙ ap (λ (l : List ℕ). added l mid)
    (take_rest h (t' ++ drop h (put_rest h b (t ++ drop h acc)))
    ∙ second_of h t' (drop h (put_rest h b (t ++ drop h acc))) t'-long ∙ second')
    in
    let hb : (i : ℕ) → i < h → Cong 65536 (of_nats both i) (plus f (from h f) i) =
    λ i hi. cong_trans (cong_of_eq (ap (λ (l : List ℕ). of_nats l i) eo)) (of_nats-residues some h (plus f (from h f)) hi)
    in
    let ha : (i : ℕ) → i < h + h → Cong 65536 (of_nats above i) (minus r (from h r) i) =
    λ i hi. cong_trans (cong_of_eq (ap (λ (l : List ℕ). of_nats l i) ea))
    (cong_trans (of_nats-residues some (h + h) (minus (from 0 r) (from h r)) hi)
    (cong_of_eq (ap (λ (j : ℕ). r j -ℤ from h r i) (zero-add i))))
    in
    let hc : (i : ℕ) → i < h + h → Cong 65536 (of_nats below i) (minus (from (h + h) r) (from h r) i) =
    λ i hi. cong_trans (cong_of_eq (ap (λ (l : List ℕ). of_nats l i) eb)) (of_nats-residues some (h + h) (minus (from (h + h) r) (from h r)) hi)
    in
    let same : h + (h + h) - h ≡ h + h = omega arith in
    let mid_at : (k : ℕ) → k < h → Cong 65536 (of_nats mid k) (toeplitz h (from h r) (of_nats both) k) =
    λ k hk. cong_trans (from_nothing h none (take (h + h) (drop h row)) both en (em ∙ ap (λ (n : ℕ). with_toeplitz none (take n (drop h row)) both) same) hk)
    (toeplitz_cong h (of_nats (take (h + h) (drop h row))) (from h r) (of_nats both) (of_nats both)
    (λ i hi. cong_of_eq (ap pos (window_at h (h + h) row 0 hi))) (λ i _. cong_refl (of_nats both i)) hk)
    in
    let sums : Poly = plus (of_nats acc) (toeplitz (h + h) r f) in
    let top : added t mid ≡ residues 65536 h sums =
    ap (λ (n : ℕ). residues 65536 n (plus (of_nats t) (of_nats mid))) t-long
    ∙ residues_cong some h (plus (of_nats t) (of_nats mid)) sums
    (λ k hk.
    cong_trans
    (cong_add
    (cong_trans (with_at h (take h acc) above (rest h v) take_long et hk)
    (cong_add (cong_of_eq (take_at h acc hk))
    (toeplitz_cong h (of_nats above) (of_nats above) (of_nats (rest h v)) (from h f)
    (λ i _. cong_refl (of_nats above i)) (λ i _. cong_of_eq (rest_at h v i)) hk)))
    (mid_at k hk))
    (upper h r f (of_nats both) (of_nats above) (of_nats below) hb ha hc (of_nats acc k) hk))
    in
    let bottom : added b mid ≡ residues 65536 h (from h sums) =
    ap (λ (n : ℕ). residues 65536 n (plus (of_nats b) (of_nats mid))) b-long
    ∙ residues_cong some h (plus (of_nats b) (of_nats mid)) (from h sums)
    (λ k hk.
    cong_trans
    (cong_add
    (cong_trans (with_at h (rest h (t ++ drop h acc)) below (take h v) (ap length second ∙ drop-long) ebb hk)
    (cong_add (cong_of_eq (ap (λ (l : List ℕ). of_nats l k) second ∙ ap pos (get_or-drop h acc k 0)))
    (toeplitz_cong h (of_nats below) (of_nats below) (of_nats (take h v)) f
    (λ i _. cong_refl (of_nats below i)) (λ i hi. cong_of_eq (take_at h v hi)) hk)))
    (mid_at k hk))
    (lower h r f (of_nats both) (of_nats above) (of_nats below) hb ha hc (of_nats acc (h + k)) hk))
    in
    replaced h (put_rest h b (t ++ drop h acc)) t' b' t'-long
    ∙ ap₂ (λ (x y : List ℕ). x ++ y) (t'-is ∙ top) (b'-is ∙ bottom)
    ∙ whole h acc row v acc-long

-- The same of n entries, which are two halves of h.
pub halves_joined : (h n : ℕ) (acc row v : List ℕ) {both none mid above t below b t' b' : List ℕ} → n ≡ h + h → Matrix n acc row v
    → none ≡ replicate h 0
    → both ≡ folded h v
    → mid ≡ with_toeplitz none (take (h + n - h) (drop h row)) both
    → above ≡ row_difference 0 h n row
    → t ≡ with_toeplitz (take h acc) above (rest h v)
    → below ≡ row_difference n h n row
    → b ≡ with_toeplitz (rest h (t ++ drop h acc)) below (take h v)
    → t' ≡ added (take h (put_rest h b (t ++ drop h acc))) mid
    → b' ≡ added (rest h (t' ++ drop h (put_rest h b (t ++ drop h acc)))) mid
    → put_rest h b' (t' ++ drop h (put_rest h b (t ++ drop h acc))) ≡ with_toeplitz acc row v
halves_joined h n acc row v e m en eo em ea et eb ebb et' eb' =
    joined h acc row v (rw e at m) en eo (rw e at em) (rw e at ea) et (rw e at eb) ebb et' eb'

-- Laws of the lists of residues of polynomials. Assumes nothing.
use mathlib.Core.Path.{◌≡◌, ap, ◌∙◌}
use mathlib.Core.List.{List}
use Prim.Native.Nat.{ℕ, ◌^◌, ◌%◌, ◌≤◌, ◌<◌, suc-le-suc, zero-le}
use lib.ListN.{length, get_or, get_or-eq_default}
use lib.Seq.{ext_get_or}
use lib.IntN.{pos}
use Rattle.keccak.proofs.Entries.{tabulate_at, length-tabulate}
use Rattle.ring.specs.Integers.{Cong, residue}
use Rattle.bits.specs.Bits.{Below, low_bits}
use Rattle.ring.specs.Poly.{Poly, mul, plus, of_nats, residues}
use Rattle.bits.proofs.Filling.{tabulate_ext, map-tabulate}
use Rattle.ring.proofs.Modular.{cong_add, cong_of_eq, cong_trans, residue-small, residue_cong, residue_below, residue-eq, residue_power}
use Rattle.ring.proofs.Ring.{sides, mul_cong}

-- Entry k is the residue of coefficient k.
pub residues_at : (q n : ℕ) (f : Poly) {k : ℕ} → k < n → get_or (residues q n f) k 0 ≡ residue q (f k)
unfolding residues
residues_at q n f {k} h = tabulate_at n (λ i. residue q (f i)) k 0 h

-- There are n of them.
pub length-residues : (q n : ℕ) (f : Poly) → length (residues q n f) ≡ n
unfolding residues
length-residues q n f = length-tabulate n (λ i. residue q (f i))

-- Only the coefficients below n count.
pub residues_ext : (q n : ℕ) (f g : Poly) → ((k : ℕ) → k < n → f k ≡ g k) → residues q n f ≡ residues q n g
unfolding residues
residues_ext q n f g e = tabulate_ext n (λ i. residue q (f i)) (λ i. residue q (g i)) (λ k h. ap (residue q) (e k h))

-- Congruent polynomials have the same residues.
pub residues_cong : {q : ℕ} → 0 < q → (n : ℕ) (f g : Poly) → ((k : ℕ) → k < n → Cong q (f k) (g k))
    → residues q n f ≡ residues q n g
unfolding residues
residues_cong {q} p n f g c = tabulate_ext n (λ i. residue q (f i)) (λ i. residue q (g i)) (λ k h. residue-eq p (c k h))

-- Every entry is below q.
pub residues_below : {q : ℕ} → 0 < q → (n : ℕ) (f : Poly) → Below q (residues q n f)
residues_below {q} p n f i = sides n i
    (λ h. rw (get_or-eq_default (residues q n f) 0 {n = i} (rw (length-residues q n f) h)) p)
    (λ h. rw (residues_at q n f h) (residue_below p (f i)))

-- A list of numbers below q is that of the residues of its polynomial.
pub residues_of_list : (q : ℕ) (xs : List ℕ) → Below q xs → residues q (length xs) (of_nats xs) ≡ xs
residues_of_list q xs b =
    ext_get_or 0 (residues q (length xs) (of_nats xs)) xs (length-residues q (length xs) (of_nats xs))
    (λ i h. residues_at q (length xs) (of_nats xs) (rw (length-residues q (length xs) (of_nats xs)) at h) ∙ residue-small (b i))

-- The polynomial of the residues is congruent to the polynomial.
pub of_nats-residues : {q : ℕ} → 0 < q → (n : ℕ) (f : Poly) {k : ℕ} → k < n → Cong q (of_nats (residues q n f) k) (f k)
of_nats-residues {q} p n f {k} h = cong_trans (cong_of_eq (ap pos (residues_at q n f h))) (residue_cong p (f k))

-- The low i bits of residues modulo 2^j are the residues modulo 2^i.
pub residues_low : (i j n : ℕ) (f : Poly) → i ≤ j → low_bits i (residues (2 ^ j) n f) ≡ residues (2 ^ i) n f
unfolding low_bits residues
residues_low i j n f h =
    map-tabulate (λ c. c % 2 ^ i) n (λ k. residue (2 ^ j) (f k))
    ∙ tabulate_ext n (λ k. residue (2 ^ j) (f k) % 2 ^ i) (λ k. residue (2 ^ i) (f k)) (λ k l. residue_power i j h (f k))

-- A sum with a product may be taken of the residues.
pub product_residues : {q : ℕ} → 0 < q → (n : ℕ) (f g h : Poly)
    → residues q n (plus (of_nats (residues q n f)) (mul n (of_nats (residues q n g)) (of_nats (residues q n h))))
    ≡ residues q n (plus f (mul n g h))
product_residues {q} p n f g h =
    let f' : Poly = of_nats (residues q n f) in
    let g' : Poly = of_nats (residues q n g) in
    let h' : Poly = of_nats (residues q n h) in
    residues_cong p n (plus f' (mul n g' h')) (plus f (mul n g h))
    (λ k l. cong_add (of_nats-residues p n f l)
    (mul_cong n g' g h' h (λ i m. of_nats-residues p n g m) (λ i m. of_nats-residues p n h m) l))

-- What `poly::multiply_add` and then `bits::reduce` leave, of the residues of three polynomials modulo 2^16: those of the first
-- with the product of the others, modulo 2^w.
pub product_modulo : (w n : ℕ) (f g h : Poly) → w ≤ 16
    → low_bits w (residues 65536 n (plus (of_nats (residues 65536 n f)) (mul n (of_nats (residues 65536 n g)) (of_nats (residues 65536 n h)))))
    ≡ residues (2 ^ w) n (plus f (mul n g h))
product_modulo w n f g h l = ap (low_bits w) (product_residues {q = 65536} (suc-le-suc zero-le) n f g h) ∙ residues_low w 16 n (plus f (mul n g h)) l

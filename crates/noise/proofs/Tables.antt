-- Laws of values and integers that are tables of a polynomial's coefficients. Assumes nothing.
use mathlib.Core.Path.{◌≡◌, refl, ap, ap₂, ◌∙◌}
use mathlib.Core.List.{List, ◌∷◌}
use Prim.Native.Nat.{ℕ, zero, suc, ◌+◌, ◌-◌, ◌*◌, ◌%◌, ◌^◌, ◌≤◌, ◌<◌}
use native.Mathlib.Nat.{not-suc-le-zero, le_of_suc-le-suc}
use native.Mathlib.Omega.{arith}
use lib.IntN.{pos, ◌+ℤ◌, ◌-ℤ◌}
use lib.ListN.{length, get_or, take, replicate}
use Rattle.keccak.specs.Lists.{tabulate}
use Rattle.keccak.proofs.Entries.{tabulate_at, length-tabulate}
use Rattle.bits.specs.Bits.{low_bits}
use Rattle.bits.proofs.Filling.{tabulate_ext, map-tabulate}
use Rattle.ring.specs.Integers.{centred, residue}
use Rattle.ring.specs.Poly.{residues}
use Rattle.ring.specs.Coefficients.{added, centred_integers}
use Rattle.ring.proofs.Modular.{residue-small}
use Rattle.kindi.specs.declared.Params.{Params}
use Rattle.vectors.specs.Vectors.{raised}
use Rattle.noise.specs.Terms.{combined}

-- Centred values.
pub centred_table : (p n : ℕ) (f : ℕ → ℕ) {xs : List ℕ} → xs ≡ tabulate n f → centred_integers p xs ≡ tabulate n (λ k. centred p (f k))
centred_table p n f e =
    ap (centred_integers p) e
    ∙ ap (λ (m : ℕ). tabulate m (λ k. centred p (get_or (tabulate n f) k 0))) (length-tabulate n f)
    ∙ tabulate_ext n _ _ (λ k h. ap (centred p) (tabulate_at n f k 0 h))

-- Values without their high bits.
pub low_table : (w n : ℕ) (f : ℕ → ℕ) {xs : List ℕ} → xs ≡ tabulate n f → low_bits w xs ≡ tabulate n (λ k. f k % 2 ^ w)
unfolding low_bits
low_table w n f e = ap (low_bits w) e ∙ map-tabulate (λ c. c % 2 ^ w) n f

-- Values plus twice others, where they are small.
pub twice_table : (n : ℕ) (f g : ℕ → ℕ) {xs ys zs : List ℕ} → ((k : ℕ) → f k + 2 * g k < 65536)
    → xs ≡ tabulate n f → ys ≡ tabulate n g → zs ≡ added xs (raised 1 ys) → zs ≡ tabulate n (λ k. f k + 2 * g k)
unfolding residues
twice_table n f g small ex ey ez =
    let half : (k : ℕ) → 2 * g k < 65536 = λ k. omega (arith, small k) in
    let high : raised 1 (tabulate n g) ≡ tabulate n (λ k. 2 * g k)
    = ap (λ (m : ℕ). tabulate m (λ k. residue 65536 (pos (2 ^ 1 * get_or (tabulate n g) k 0)))) (length-tabulate n g)
    ∙ tabulate_ext n _ _ (λ k h. ap (λ (v : ℕ). residue 65536 (pos (2 * v))) (tabulate_at n g k 0 h) ∙ residue-small (half k)) in
    ez ∙ ap₂ added ex (ap (raised 1) ey ∙ high)
    ∙ ap (λ (m : ℕ). tabulate m (λ k. residue 65536 (pos (get_or (tabulate n f) k 0) +ℤ pos (get_or (tabulate n (λ j. 2 * g j)) k 0))))
    (length-tabulate n f)
    ∙ tabulate_ext n _ _ (λ k h.
    ap₂ (λ (a b : ℕ). residue 65536 (pos (a + b))) (tabulate_at n f k 0 h) (tabulate_at n (λ j. 2 * g j) k 0 h) ∙ residue-small (small k))

-- X from tables of values.
pub combined_table : (P : Params) (n : ℕ) (f g h : ℕ → ℕ) {w r low : List ℕ} → w ≡ tabulate n f → r ≡ tabulate n g → low ≡ tabulate n h
    → combined P w r low ≡ tabulate n (λ k. (centred (2 ^ (P.t - 1)) (f k) +ℤ centred P.p (g k)) -ℤ pos (h k))
unfolding combined
combined_table P n f g h {w} {r} {low} ew er el =
    let at : (xs : List ℕ) (e : ℕ → ℕ) → xs ≡ tabulate n e → (k : ℕ) → k < n → get_or xs k 0 ≡ e k
    = λ xs e q k l. ap (λ (xs : List ℕ). get_or xs k 0) q ∙ tabulate_at n e k 0 l in
    ap (λ (m : ℕ). tabulate m (λ k. (centred (2 ^ (P.t - 1)) (get_or w k 0) +ℤ centred P.p (get_or r k 0)) -ℤ pos (get_or low k 0)))
    (ap length ew ∙ length-tabulate n f)
    ∙ tabulate_ext n _ _ (λ k l.
    ap₂ (λ (a b : ℕ). (centred (2 ^ (P.t - 1)) a +ℤ centred P.p b) -ℤ pos (get_or low k 0)) (at w f ew k l) (at r g er k l)
    ∙ ap (λ (v : ℕ). (centred (2 ^ (P.t - 1)) (f k) +ℤ centred P.p (g k)) -ℤ pos v) (at low h el k l))

-- The first n of m equal entries.
pub take_same : {A : Type 0} (n m : ℕ) (x : A) → n ≤ m → take n (replicate m x) ≡ replicate n x
take_same zero m x h = refl
take_same (suc n) zero x h = absurd (not-suc-le-zero h)
take_same {A} (suc n) (suc m) x h = ap (λ (l : List A). x ∷ l) (take_same n m x (le_of_suc-le-suc h))

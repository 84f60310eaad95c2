-- Laws of the product that `rows::toeplitz_rows` adds up two columns a turn, modulo 2^16. Assumes nothing.
use mathlib.Core.Path.{◌≡◌, refl, sym, ap, ◌∙◌}
use mathlib.Core.List.{List}
use Prim.Native.Nat.{ℕ, ◌+◌, ◌-◌, ◌*◌, ◌%◌, ◌≤◌, ◌<◌, zero-le}
use native.Mathlib.Nat.{min-eq_left}
use native.Mathlib.Numerals.{towards_suc}
use native.Mathlib.Omega.{arith}
use lib.IntN.{pos, ◌+ℤ◌, ◌*ℤ◌, +ℤ_assoc, +ℤ_idr}
use lib.ListN.{length, get_or, take, drop, length-take, length-drop}
use lib.Seq.{get_or-take, get_or-drop}
use Rattle.keccak.specs.Lists.{tabulate}
use Rattle.bits.specs.Bits.{Below}
use Rattle.ring.specs.Integers.{residue}
use Rattle.ring.specs.Poly.{Poly, sum, of_nats, residues}
use Rattle.bits.proofs.Filling.{tabulate_ext}
use Rattle.ring.proofs.Modular.{cong_of_eq}
use Rattle.ring.proofs.Residues.{residues_at, residues_ext, residues_of_list}
use Rattle.ring.proofs.Product.{term_more}
use Rattle.ring.specs.Terms.{add_term}
use Rattle.product.specs.Toeplitz.{toeplitz, with_toeplitz}

-- f and the first i columns of the product with v.
unfoldable pub columns : ℕ → Poly → Poly → Poly → ℕ → Poly
columns n f r v i k = f k +ℤ sum i (λ j. v j *ℤ r (n - j + k))

columns_none : (acc : List ℕ) (r v : Poly) → Below 65536 acc → acc ≡ residues 65536 (length acc) (columns (length acc) (of_nats acc) r v 0)
unfolding columns sum
columns_none acc r v h =
    sym (residues_of_list 65536 acc h) ∙ residues_ext 65536 (length acc) (of_nats acc) _ (λ k _. sym (+ℤ_idr (of_nats acc k)))

columns-all : (acc row v : List ℕ)
    → residues 65536 (length acc) (columns (length acc) (of_nats acc) (of_nats row) (of_nats v) (length acc)) ≡ with_toeplitz acc row v
unfolding columns toeplitz with_toeplitz
columns-all acc row v = refl

-- n entries of a list from place a on: how many they are, and entry k of them.
pub window_long : {A : Type 0} (a n : ℕ) (xs : List A) → a + n ≤ length xs → length (take n (drop a xs)) ≡ n
window_long a n xs h =
    let there : n ≤ length xs - a = omega arith in
    simp (length-take, length-drop) (min-eq_left there)

pub window_at : {A : Type 0} (a n : ℕ) (xs : List A) (none : A) {k : ℕ} → k < n → get_or (take n (drop a xs)) k none ≡ get_or xs (a + k) none
window_at a n xs none {k} hk = get_or-take n (drop a xs) k none hk ∙ get_or-drop a xs k none

-- The part of a row that the last column reaches, and that columns i and i + 1 reach.
abbrev pub reached_last : {A : Type 0} → ℕ → List A → List A
reached_last n row = take (n + 1 - 1) (drop 1 row)

abbrev pub reached_two : {A : Type 0} → ℕ → ℕ → List A → List A
reached_two n i row = take (2 * n - i - (n - 1 - i)) (drop (n - 1 - i) row)

-- A column more.
column_next : (n : ℕ) (f r v : Poly) (i k : ℕ) → columns n f r v (i + 1) k ≡ columns n f r v i k +ℤ v i *ℤ r (n - i + k)
unfolding columns sum
column_next n f r v i k = simp (towards_suc, +ℤ_assoc)

-- What the code adds to acc is the last column.
column_last : (n : ℕ) (f : Poly) (row xs acc : List ℕ) → 0 < n
    → acc ≡ residues 65536 n (columns n f (of_nats row) (of_nats xs) (n - 1))
    → tabulate n (λ k. add_term (get_or acc k 0) (get_or xs (n - 1) 0) (get_or (reached_last n row) k 0)) ≡ residues 65536 n
    (columns n f (of_nats row) (of_nats xs) n)
unfolding residues
column_last n f row xs acc h e =
    let i = n - 1 in
    let next : i + 1 ≡ n = omega arith in
    tabulate_ext n
    (λ k. add_term (get_or acc k 0) (get_or xs i 0) (get_or (reached_last n row) k 0))
    (λ k. residue 65536 (columns n f (of_nats row) (of_nats xs) n k))
    (λ k hk.
    let place : 1 + k ≡ n - i + k = omega arith in
    term_more (get_or xs i 0) (columns n f (of_nats row) (of_nats xs) i k)
    (ap (λ (l : List ℕ). get_or l k 0) e ∙ residues_at 65536 n (columns n f (of_nats row) (of_nats xs) i) hk)
    (cong_of_eq (ap pos (window_at 1 (n + 1 - 1) row 0 (omega arith) ∙ ap (λ (j : ℕ). get_or row j 0) place)))
    ∙ ap (residue 65536) (sym (column_next n f (of_nats row) (of_nats xs) i k))
    ∙ ap (λ (j : ℕ). residue 65536 (columns n f (of_nats row) (of_nats xs) j k)) next)

-- What the code adds to acc is two columns.
columns_more : (n : ℕ) (f : Poly) (row xs acc : List ℕ) (i : ℕ) → i + 1 < n
    → acc ≡ residues 65536 n (columns n f (of_nats row) (of_nats xs) i)
    → tabulate n (λ k. add_term (add_term (get_or acc k 0) (get_or xs i 0) (get_or (reached_two n i row) (k + 1) 0))
    (get_or xs (i + 1) 0) (get_or (reached_two n i row) k 0))
    ≡ residues 65536 n (columns n f (of_nats row) (of_nats xs) (i + 2))
unfolding residues
columns_more n f row xs acc i h e =
    let both : i + 1 + 1 ≡ i + 2 = omega arith in
    tabulate_ext n
    (λ k. add_term (add_term (get_or acc k 0) (get_or xs i 0) (get_or (reached_two n i row) (k + 1) 0))
    (get_or xs (i + 1) 0) (get_or (reached_two n i row) k 0))
    (λ k. residue 65536 (columns n f (of_nats row) (of_nats xs) (i + 2) k))
    (λ k hk.
    let first : n - 1 - i + (k + 1) ≡ n - i + k = omega arith in
    let second : n - 1 - i + k ≡ n - (i + 1) + k = omega arith in
    term_more (get_or xs (i + 1) 0) (columns n f (of_nats row) (of_nats xs) (i + 1) k)
    (term_more (get_or xs i 0) (columns n f (of_nats row) (of_nats xs) i k)
    (ap (λ (l : List ℕ). get_or l k 0) e ∙ residues_at 65536 n (columns n f (of_nats row) (of_nats xs) i) hk)
    (cong_of_eq (ap pos (window_at (n - 1 - i) (2 * n - i - (n - 1 - i)) row 0 {k = k + 1} (omega arith) ∙ ap (λ (j : ℕ). get_or row j 0) first)))
    ∙ ap (residue 65536) (sym (column_next n f (of_nats row) (of_nats xs) i k)))
    (cong_of_eq (ap pos (window_at (n - 1 - i) (2 * n - i - (n - 1 - i)) row 0 (omega arith) ∙ ap (λ (j : ℕ). get_or row j 0) second)))
    ∙ ap (residue 65536) (sym (column_next n f (of_nats row) (of_nats xs) (i + 1) k))
    ∙ ap (λ (j : ℕ). residue 65536 (columns n f (of_nats row) (of_nats xs) j k)) both)

-- What `toeplitz_rows` carries: after i entries of v, two a turn, their columns are added.
pub record Paired (acc₀ row v : List ℕ) (i : ℕ) (acc : List ℕ) : Type 0 where
  pub within : i ≤ length acc₀
  pub even : i % 2 ≡ 0
  pub long : length acc ≡ length acc₀
  pub are : acc ≡ residues 65536 (length acc₀) (columns (length acc₀) (of_nats acc₀) (of_nats row) (of_nats v) i)

module _ {acc₀ row v : List ℕ} where
  pub paired_begun : Below 65536 acc₀ → Paired acc₀ row v 0 acc₀
  paired_begun words = record {
    within = zero-le;
    even = refl;
    long = refl;
    are = columns_none acc₀ (of_nats row) (of_nats v) words;
  }

  -- One turn more.
  pub paired_more : {i : ℕ} {acc next : List ℕ} → Paired acc₀ row v i acc → i + 1 < length acc₀ → length next ≡ length acc
      → next ≡ tabulate (length acc) (λ k. add_term (add_term (get_or acc k 0) (get_or v i 0) (get_or (reached_two (length acc₀) i row) (k + 1) 0))
      (get_or v (i + 1) 0) (get_or (reached_two (length acc₀) i row) k 0))
      → Paired acc₀ row v (i + 2) next
  paired_more {i} {acc} h in-it kept e = record {
    within = omega arith;
    even = omega (arith, h.even);
    long = kept ∙ h.long;
    are = e ∙ rw h.long (columns_more (length acc₀) (of_nats acc₀) row v acc i in-it h.are);
  }

  module _ {i : ℕ} {acc : List ℕ} (h : Paired acc₀ row v i acc) where
    -- The same list after m entries, where m is i.
    pub paired_as : {m : ℕ} {same : List ℕ} → m ≡ i → same ≡ acc → Paired acc₀ row v m same
    paired_as e is = rw (e, is) h

    -- After the last turn, where no column is left, and where one is.
    pub paired_all : i ≡ length acc₀ → acc ≡ with_toeplitz acc₀ row v
    paired_all all =
        h.are ∙ ap (λ (m : ℕ). residues 65536 (length acc₀) (columns (length acc₀) (of_nats acc₀) (of_nats row) (of_nats v) m)) all
        ∙ columns-all acc₀ row v

    pub paired_last : {next : List ℕ} → i + 1 ≡ length acc₀
        → next ≡ tabulate (length acc) (λ k. add_term (get_or acc k 0) (get_or v (length acc₀ - 1) 0) (get_or (reached_last (length acc₀) row) k 0))
        → next ≡ with_toeplitz acc₀ row v
    paired_last last e =
        let some : 0 < length acc₀ = omega arith in
        let place : i ≡ length acc₀ - 1 = omega arith in
        e ∙ rw h.long (column_last (length acc₀) (of_nats acc₀) row v acc some (rw place at h.are)) ∙ columns-all acc₀ row v

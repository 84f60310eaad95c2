-- Laws of the product that `poly::multiply_add` adds up four rows at a time, modulo 2^16. Assumes nothing.
use mathlib.Core.Path.{◌≡◌, refl, sym, ap, ◌∙◌}
use mathlib.Core.List.{List, ◌++◌}
use Prim.Native.Nat.{ℕ, ◌+◌, ◌-◌, ◌*◌, ◌%◌, ◌≤◌, ◌<◌, zero-le, suc-le-suc}
use native.Mathlib.Numerals.{towards_suc}
use native.Mathlib.Omega.{arith}
use lib.IntN.{ℤ, pos, neg_ℤ, ◌+ℤ◌, ◌*ℤ◌, +ℤ_assoc, +ℤ_idr}
use lib.ListN.{length, get_or, take, drop, length-append, length-drop, get_or-append}
use lib.Seq.{get_or-append-add, get_or-take, get_or-drop}
use Rattle.keccak.specs.Lists.{tabulate}
use Rattle.bits.proofs.Filling.{tabulate_ext}
use Rattle.ring.proofs.Modular.{cong_of_eq, cong_trans, residue_cong, residue_term}
use Rattle.ring.proofs.Residues.{residues_at, residues_ext, residues_of_list, length-residues}
use Rattle.ring.proofs.Ring.{shifted_low, shifted_high, sides}
use Rattle.bits.specs.Bits.{Below}
use Rattle.ring.specs.Integers.{Cong, residue}
use Rattle.ring.specs.Poly.{Poly, sum, shifted, mul, plus, of_nats, residues}
use Rattle.ring.specs.Terms.{add_term, add_four, doubled}
use Rattle.ring.specs.Coefficients.{Factors, with_product}

-- From place n − i on stand the coefficients of X^i times b.
pub doubled_at : (b : List ℕ) (i k : ℕ) → i < length b → k < length b
    → Cong 65536 (pos (get_or (doubled b) (length b - i + k) 0)) (shifted (length b) (of_nats b) i k)
doubled_at b i k hi hk =
    let n = length b in
    let f : Poly = λ k. neg_ℤ (of_nats b k) in
    let front : length (residues 65536 n f) ≡ n = length-residues 65536 n f in
    sides i k
    (λ h.
    let place : n - i + k ≡ length (residues 65536 n f) + (k - i) = rw front (omega arith) in
    cong_of_eq
    (ap pos (ap (λ (j : ℕ). get_or (doubled b) j 0) place ∙ get_or-append-add (residues 65536 n f) b (k - i) 0)
    ∙ sym (shifted_low n (of_nats b) h)))
    (λ h.
    let place : n - i + k ≡ n + k - i = omega arith in
    let inside : n - i + k < n = omega arith in
    cong_trans
    (cong_of_eq (ap pos (get_or-append (residues 65536 n f) b 0 (n - i + k) (rw front inside) ∙ residues_at 65536 n f inside)))
    (cong_trans (residue_cong {q = 65536} (suc-le-suc zero-le) (f (n - i + k)))
    (cong_of_eq (ap (λ (j : ℕ). neg_ℤ (of_nats b j)) place ∙ sym (shifted_high n (of_nats b) h)))))

-- The same in a longer row.
pub row_at : (n : ℕ) (b row rest : List ℕ) → length b ≡ n → row ≡ doubled b → (j k : ℕ) → j < n → k < n
    → Cong 65536 (pos (get_or (row ++ rest) (n - j + k) 0)) (shifted n (of_nats b) j k)
row_at n b row rest l e j k hj hk =
    let long : length row ≡ n + n = ap length e ∙ length-append (residues 65536 (length b) (λ k. neg_ℤ (of_nats b k))) b
    ∙ rw (length-residues, l)
    in
    let inside : length b - j + k < length row = omega arith in
    let front : get_or (row ++ rest) (length b - j + k) 0 ≡ get_or (doubled b) (length b - j + k) 0 =
    get_or-append row rest 0 (length b - j + k) inside ∙ ap (λ (r : List ℕ). get_or r (length b - j + k) 0) e
    in
    rw (← l)
    (cong_trans (cong_of_eq (ap pos front)) (doubled_at b j k (omega arith) (omega arith)))

-- The length of such a row in its room of 1024 entries.
pub row_long : (n : ℕ) (row room : List ℕ) → length row ≡ 2 * n → length room ≡ 1024 → n ≤ 512
    → length (row ++ drop (2 * n) room) ≡ 1024
row_long n row room l r h = simp (length-append, length-drop) (omega arith)

-- f and the first i rows of the product of a and b.
unfoldable pub rows : ℕ → Poly → Poly → Poly → ℕ → Poly
rows n f a b i k = f k +ℤ sum i (λ j. a j *ℤ shifted n b j k)

pub rows_none : {q : ℕ} (n : ℕ) (xs : List ℕ) (a b : Poly) → Below q xs → length xs ≡ n → xs ≡ residues q n (rows n (of_nats xs) a b 0)
unfolding rows sum
rows_none {q} n xs a b h l =
    sym (residues_of_list q xs h) ∙ ap (λ (m : ℕ). residues q m (of_nats xs)) l
    ∙ residues_ext q n (of_nats xs) (rows n (of_nats xs) a b 0) (λ k _. sym (+ℤ_idr (of_nats xs k)))

pub rows_all : (q n : ℕ) (f a b : Poly) → residues q n (rows n f a b n) ≡ residues q n (plus f (mul n a b))
unfolding rows mul
rows_all q n f a b = refl

-- Four rows more.
pub rows_four : (n : ℕ) (f a b : Poly) (i k : ℕ) → rows n f a b (i + 4) k ≡ rows n f a b i k +ℤ a i *ℤ shifted n b i k
    +ℤ a (i + 1) *ℤ shifted n b (i + 1) k
    +ℤ a (i + 2) *ℤ shifted n b (i + 2) k
    +ℤ a (i + 3) *ℤ shifted n b (i + 3) k
unfolding rows sum
rows_four n f a b i k = simp (towards_suc, +ℤ_assoc)

-- A term more.
pub term_more : {acc r : ℕ} (a : ℕ) (x : ℤ) {y : ℤ} → acc ≡ residue 65536 x → Cong 65536 (pos r) y
    → add_term acc a r ≡ residue 65536 (x +ℤ pos a *ℤ y)
term_more {acc} {r} a x {y} e c =
    ap (λ (m : ℕ). add_term m a r) e ∙ residue_term {q = 65536} (suc-le-suc zero-le) a r x y c

-- What the code adds to acc, where row has the coefficients of X^j times b from place n − j on.
pub four_more : (n : ℕ) (f : Poly) (xs row acc : List ℕ) (b : Poly) (i : ℕ) → i + 4 ≤ n
    → ((j k : ℕ) → j < n → k < n → Cong 65536 (pos (get_or row (n - j + k) 0)) (shifted n b j k))
    → acc ≡ residues 65536 n (rows n f (of_nats xs) b i)
    → tabulate n
    (add_four acc (take (2 * n - i - (n - i - 3)) (drop (n - i - 3) row)) (get_or xs i 0) (get_or xs (i + 1) 0) (get_or xs (i + 2) 0)
    (get_or xs (i + 3) 0)) ≡ residues 65536 n (rows n f (of_nats xs) b (i + 4))
unfolding add_four residues
four_more n f xs row acc b i room h e =
    let m = 2 * n - i - (n - i - 3) in
    let o = n - i - 3 in
    let part = take m (drop o row) in
    let met : (j u k : ℕ) → k < n → j + u ≡ i + 3 + k → u < k + 4 → k ≤ u → Cong 65536 (pos (get_or part u 0)) (shifted n b j k) =
    λ j u k hk s l g.
    let inside : u < m = omega arith in
    let place : o + u ≡ n - j + k = omega arith in
    let small : j < n = omega arith in
    cong_trans
    (cong_of_eq (ap pos (get_or-take m (drop o row) u 0 inside ∙ get_or-drop o row u 0 ∙ ap (λ (v : ℕ). get_or row v 0) place)))
    (h j k small hk)
    in
    tabulate_ext n
    (add_four acc part (get_or xs i 0) (get_or xs (i + 1) 0) (get_or xs (i + 2) 0) (get_or xs (i + 3) 0))
    (λ k. residue 65536 (rows n f (of_nats xs) b (i + 4) k))
    (λ k hk.
    let x = rows n f (of_nats xs) b i k in
    let t : ℕ → ℤ = λ j. of_nats xs j *ℤ shifted n b j k in
    let start : get_or acc k 0 ≡ residue 65536 x = ap (λ (l : List ℕ). get_or l k 0) e ∙ residues_at 65536 n (rows n f (of_nats xs) b i) hk in
    term_more (get_or xs (i + 3) 0) (x +ℤ t i +ℤ t (i + 1) +ℤ t (i + 2))
    (term_more (get_or xs (i + 2) 0) (x +ℤ t i +ℤ t (i + 1))
    (term_more (get_or xs (i + 1) 0) (x +ℤ t i)
    (term_more (get_or xs i 0) x start (met i (k + 3) k hk (omega arith) (omega arith) (omega arith)))
    (met (i + 1) (k + 2) k hk (omega arith) (omega arith) (omega arith)))
    (met (i + 2) (k + 1) k hk (omega arith) (omega arith) (omega arith)))
    (met (i + 3) k k hk (omega arith) (omega arith) (omega arith))
    ∙ ap (residue 65536) (sym (rows_four n f (of_nats xs) b i k)))

-- What `multiply_add` carries: the row has the factor b in all its shifts, in a room of 1024 entries, and after i coefficients of a,
-- four a turn, their rows are added.
pub record Added (acc₀ a b row : List ℕ) (i : ℕ) (acc : List ℕ) : Type 0 where
  pub factors : Factors acc₀ a b
  pub room : length row ≡ 1024
  pub shifts : (j k : ℕ) → j < length acc₀ → k < length acc₀
      → Cong 65536 (pos (get_or row (length acc₀ - j + k) 0)) (shifted (length acc₀) (of_nats b) j k)
  pub within : i ≤ length acc₀
  pub fours : i % 4 ≡ 0
  pub long : length acc ≡ length acc₀
  pub are : acc ≡ residues 65536 (length acc₀) (rows (length acc₀) (of_nats acc₀) (of_nats a) (of_nats b) i)

module _ {acc₀ a b : List ℕ} where
  pub added_begun : (room : List ℕ) {row : List ℕ} → Factors acc₀ a b → Below 65536 acc₀ → row ≡ doubled b → length row ≡ 2 * length acc₀
      → length room ≡ 1024
      → Added acc₀ a b (row ++ drop (2 * length acc₀) room) 0 acc₀
  added_begun room {row} both words e twice wide = record {
    factors = both;
    room = row_long (length acc₀) row room twice wide both.short;
    shifts = row_at (length acc₀) b row (drop (2 * length acc₀) room) both.second e;
    within = zero-le;
    fours = refl;
    long = refl;
    are = rows_none (length acc₀) acc₀ (of_nats a) (of_nats b) words refl;
  }

  module _ {row : List ℕ} {i : ℕ} {acc : List ℕ} (h : Added acc₀ a b row i acc) where
    -- The part of the row that a turn reads, and the turn's room.
    abbrev part : List ℕ
    part = take (2 * length acc₀ - i - (length acc₀ - i - 3)) (drop (length acc₀ - i - 3) row)

    turn_room : i < length acc₀ → i + 4 ≤ length acc₀
    turn_room in-it = omega (arith, h.fours, h.factors.fours)

    -- One turn more.
    pub added_more : {next : List ℕ} → i < length acc₀ → length next ≡ length acc
        → next ≡ tabulate (length acc) (add_four acc part (get_or a i 0) (get_or a (i + 1) 0) (get_or a (i + 2) 0) (get_or a (i + 3) 0))
        → Added acc₀ a b row (i + 4) next
    added_more in-it kept e = record {
      factors = h.factors;
      room = h.room;
      shifts = h.shifts;
      within = turn_room in-it;
      fours = omega (arith, h.fours);
      long = kept ∙ h.long;
      are = e ∙ rw h.long
          (four_more (length acc₀) (of_nats acc₀) a row acc (of_nats b) i (turn_room in-it) h.shifts h.are);
    }

    -- After the last turn.
    pub added-all : length acc₀ ≤ i → acc ≡ with_product acc₀ a b
    added-all last =
        let all : i ≡ length acc₀ = omega (arith, h.within) in
        h.are
        ∙ ap (λ (m : ℕ). residues 65536 (length acc₀) (rows (length acc₀) (of_nats acc₀) (of_nats a) (of_nats b) m)) all
        ∙ rows_all 65536 (length acc₀) (of_nats acc₀) (of_nats a) (of_nats b)

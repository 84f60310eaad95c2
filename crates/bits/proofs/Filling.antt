-- Laws of lists that a loop fills or changes entry by entry. Assumes nothing.
use mathlib.Core.Path.{◌≡◌, refl, sym, ap, ap₂, ◌∙◌}
use mathlib.Core.List.{List, [], ◌∷◌, ◌++◌, map, append_assoc, append-nil}
use Prim.Native.Nat.{ℕ, zero, suc, ◌+◌, ◌-◌, ◌≤◌, ◌<◌, zero-le, suc-le-suc}
use native.Mathlib.Numerals.{add-one}
use native.Mathlib.Omega.{arith}
use lib.ListN.{length, get_or, drop, set, replicate, length-set, drop_of_length-le}
use lib.Seq.{drop-cons, drop-drop, take_at, drop_at, get_or-append-add, get_or-drop, set_at}
use Rattle.keccak.specs.Lists.{tabulate, patched}
use Rattle.keccak.proofs.Entries.{length-tabulate, tabulate-add}

-- The list xs with its first i entries replaced by f 0 to f (i − 1).
abbrev pub filled : {A : Type 0} → ℕ → (ℕ → A) → List A → List A
filled i f xs = tabulate i f ++ drop i xs

pub filled_none : {A : Type 0} (f : ℕ → A) (xs : List A) → xs ≡ filled 0 f xs
unfolding tabulate
filled_none f xs = refl

-- One entry more.
tabulate_more : {A : Type 0} (i : ℕ) (f : ℕ → A) → tabulate (i + 1) f ≡ tabulate i f ++ (f i ∷ [])
unfolding tabulate
tabulate_more {A} i f =
    let last : i + 0 ≡ i = omega arith in
    tabulate-add i 1 f ∙ ap (λ (k : ℕ). tabulate i f ++ (f k ∷ [])) last

pub filled_more : {A : Type 0} (i : ℕ) (f : ℕ → A) (xs : List A) (d : A) {ys : List A} {v : A} → i < length xs → ys ≡ filled i f xs → v ≡ f i
    → set ys i v ≡ filled (i + 1) f xs
filled_more {A} i f xs d {ys} {v} h e is =
    ap (λ (l : List A). set l i v) (e ∙ ap (λ (l : List A). tabulate i f ++ l) (drop-cons xs i d h))
    ∙ set_at (tabulate i f) (get_or xs i d) (drop (suc i) xs) v i (length-tabulate i f)
    ∙ ap (λ (x : A). tabulate i f ++ (x ∷ drop (suc i) xs)) is
    ∙ sym (append_assoc (tabulate i f) (f i ∷ []) (drop (suc i) xs))
    ∙ ap (λ (l : List A). l ++ drop (suc i) xs) (sym (tabulate_more i f)) ∙ rw add-one

-- The entries that are not yet replaced.
pub filled_at : {A : Type 0} (i j : ℕ) (f : ℕ → A) (xs : List A) (d : A) {ys : List A} → i ≤ j → ys ≡ filled i f xs → get_or ys j d ≡ get_or xs j d
filled_at {A} i j f xs d h e =
    let past : j ≡ i + (j - i) = omega arith in
    let front : length (tabulate i f) + (j - i) ≡ j = rw length-tabulate (omega arith) in
    ap (λ (l : List A). get_or l j d) e
    ∙ ap (λ (k : ℕ). get_or (filled i f xs) k d) (sym front)
    ∙ get_or-append-add (tabulate i f) (drop i xs) (j - i) d
    ∙ get_or-drop i xs (j - i) d
    ∙ ap (λ (k : ℕ). get_or xs k d) (sym past)

pub filled-all : {A : Type 0} (i n : ℕ) (f : ℕ → A) (xs : List A) {ys : List A} → length xs ≡ n → i ≤ n → n ≤ i → ys ≡ filled i f xs
    → ys ≡ tabulate n f
filled-all {A} i n f xs {ys} l h k e =
    let same : i ≡ n = omega arith in
    e ∙ ap (λ (r : List A). tabulate i f ++ r) (drop_of_length-le xs {i = i} (omega arith)) ∙ append-nil (tabulate i f)
    ∙ ap (λ (m : ℕ). tabulate m f) same

-- A front that grows by the part after it.
pub front_more : {A : Type 0} (i k : ℕ) (front ys xs : List A) {zs : List A} → length front ≡ i → zs ≡ front ++ drop i xs
    → patched i (i + k - i) ys zs ≡ (front ++ ys) ++ drop (i + k) xs
front_more {A} i k front ys xs l e =
    let same : i + k - i ≡ k = omega arith in
    ap₂ (λ (m : ℕ) (l : List A). patched i m ys l) same e
    ∙ ap₂ (λ (r s : List A). r ++ (ys ++ drop k s)) (take_at front (drop i xs) i l) (drop_at front (drop i xs) i l)
    ∙ ap (λ (s : List A). front ++ (ys ++ s)) (drop-drop k i xs)
    ∙ sym (append_assoc front ys (drop (i + k) xs))

-- Two lists that agree at each place.
pub tabulate_ext : {A : Type 0} (n : ℕ) (f g : ℕ → A) → ((i : ℕ) → i < n → f i ≡ g i) → tabulate n f ≡ tabulate n g
unfolding tabulate
tabulate_ext zero f g h = refl
tabulate_ext {A} (suc n) f g h =
    ap₂ (λ (x : A) (l : List A). x ∷ l) (h zero (suc-le-suc zero-le))
    (tabulate_ext n (λ i. f (suc i)) (λ i. g (suc i)) (λ i k. h (suc i) (suc-le-suc k)))

-- A list is the table of its entries.
pub tabulate_entries : {A : Type 0} (xs : List A) (d : A) → tabulate (length xs) (λ i. get_or xs i d) ≡ xs
unfolding tabulate
tabulate_entries [] d = refl
tabulate_entries {A} (x ∷ xs) d = ap (λ (l : List A). x ∷ l) (tabulate_entries xs d)

pub tabulate_constant : {A : Type 0} (n : ℕ) (x : A) → tabulate n (λ _. x) ≡ replicate n x
unfolding tabulate
tabulate_constant zero x = refl
tabulate_constant {A} (suc n) x = ap (λ (l : List A). x ∷ l) (tabulate_constant n x)

-- A function of the entries of a table.
pub map-tabulate : {A B : Type 0} (f : A → B) (n : ℕ) (g : ℕ → A) → map f (tabulate n g) ≡ tabulate n (λ i. f (g i))
unfolding tabulate
map-tabulate f zero g = refl
map-tabulate {B = B} f (suc n) g = ap (λ (l : List B). f (g 0) ∷ l) (map-tabulate f n (λ i. g (suc i)))

-- A turn more leaves fewer.
pub turn_less : {i n : ℕ} → i < n → n - (i + 1) < n - i
turn_less h = omega arith

-- What a loop carries that fills a list xs from its front with f 0, f 1 and so on: ys is the list after i turns.
pub record Filling {A : Type 0} (f : ℕ → A) (xs : List A) (i : ℕ) (ys : List A) : Type 0 where
  pub within : i ≤ length xs
  pub long : length ys ≡ length xs
  pub are : ys ≡ filled i f xs

module _ {A : Type 0} {f : ℕ → A} {xs : List A} where
  pub filling_begun : Filling f xs 0 xs
  filling_begun = record { within = zero-le; long = refl; are = filled_none f xs }

  module _ {i : ℕ} {ys : List A} (d : A) (h : Filling f xs i ys) where
    -- One turn more.
    pub filling_more : {v : A} → i < length xs → v ≡ f i → Filling f xs (i + 1) (set ys i v)
    filling_more {v} in-it is = record {
      within = omega arith;
      long = length-set ys i v ∙ h.long;
      are = filled_more i f xs d in-it h.are is;
    }

    -- The entries that are not yet filled.
    pub filling_at : {j : ℕ} → i ≤ j → get_or ys j d ≡ get_or xs j d
    filling_at {j} past = filled_at i j f xs d past h.are

  -- After the last turn.
  pub filling_all : {i n : ℕ} {ys : List A} → Filling f xs i ys → length xs ≡ n → n ≤ i → ys ≡ tabulate n f
  filling_all {i} {n} h long last = filled-all i n f xs long (omega (arith, h.within)) last h.are

-- Laws of strings as the loops of `src/strings.rt` build them: parts that are filled one after another, lanes as eight
-- bytes, and bytes that are added one after another. Assumes nothing.
use mathlib.Core.Path.{◌≡◌, refl, sym, ap, ap₂, ◌∙◌}
use mathlib.Core.List.{List, [], ◌∷◌, ◌++◌, append_assoc, append-nil}
use Prim.Native.Nat.{ℕ, zero, suc, ◌+◌, ◌-◌, ◌*◌, ◌/◌, ◌^◌, ◌≤◌, ◌<◌, zero-le}
use native.Mathlib.Nat.{not-suc-le-zero, le_of_suc-le-suc, le_refl, mul-le-mul, div-div-eq-div-mul}
use native.Mathlib.Numerals.{add-one, towards_suc, unary_clauses}
use native.Mathlib.Omega.{arith}
use lib.Bits.{bit_xor}
use lib.ListN.{length, get_or, take, drop, set, length-append, length-take, length-drop, drop_of_length-le}
use lib.Seq.{take-append_seam, drop-append_seam, drop-drop, take-suc, drop-cons, take_all, take_at}
use Rattle.std.specs.Int.{w64, from_le_bytes, to_le_bytes}
use Rattle.keccak.specs.Lists.{concat_map, patched, value, digits}
use Rattle.keccak.specs.Strings.{lane_at, xor_into}

-- ---- a part of a string that has come back

pub length-patched : (a k : ℕ) (ys xs : List ℕ) → length ys ≡ k → a + k ≤ length xs → length (patched a k ys xs) ≡ length xs
length-patched a k ys xs e h =
    simp (length-append, length-take, length-drop, e) (omega arith)

-- Up to its end, such a string is what stood before the part, then the part.
pub take-patched : (a k : ℕ) (ys xs : List ℕ) → length ys ≡ k → a + k ≤ length xs → take (a + k) (patched a k ys xs) ≡ take a xs ++ ys
take-patched a k ys xs e h =
    let before : length (take a xs ++ ys) ≡ a + k = simp (length-append, length-take, e) (omega arith) in
    let whole : patched a k ys xs ≡ (take a xs ++ ys) ++ drop k (drop a xs) = sym (append_assoc (take a xs) ys (drop k (drop a xs))) in
    ap₂ take (sym before) whole ∙ take-append_seam (take a xs ++ ys) (drop k (drop a xs))

-- Behind it, it is as it was.
pub drop-patched : (a k : ℕ) (ys xs : List ℕ) → length ys ≡ k → a + k ≤ length xs → drop (a + k) (patched a k ys xs) ≡ drop (a + k) xs
drop-patched a k ys xs e h =
    let before : length (take a xs ++ ys) ≡ a + k = simp (length-append, length-take, e) (omega arith) in
    let whole : patched a k ys xs ≡ (take a xs ++ ys) ++ drop k (drop a xs) = sym (append_assoc (take a xs) ys (drop k (drop a xs))) in
    ap₂ drop (sym before) whole ∙ drop-append_seam (take a xs ++ ys) (drop k (drop a xs)) ∙ drop-drop k a xs

-- The part from a to the end.
pub patched-rest : {A : Type 0} (a : ℕ) (ys xs : List A) → patched a (length xs - a) ys xs ≡ take a xs ++ ys
patched-rest {A} a ys xs =
    let none : drop (length xs - a) (drop a xs) ≡ [] = drop_of_length-le (drop a xs) {i = length xs - a} (simp length-drop (omega arith)) in
    ap (λ (l : List A). take a xs ++ (ys ++ l)) none ∙ ap (λ (l : List A). take a xs ++ l) (append-nil ys)

-- A list whose first n entries and then all the others were written.
pub both_parts : {A : Type 0} (n : ℕ) (front back xs : List A) → length front ≡ n
    → patched n (length (front ++ drop n xs) - n) back (front ++ drop n xs) ≡ front ++ back
both_parts {A} n front back xs long =
    patched-rest n back (front ++ drop n xs) ∙ ap (λ (l : List A). l ++ back) (take_at front (drop n xs) n long)

pub take_rest : {A : Type 0} (a : ℕ) (xs : List A) → take (length xs - a) (drop a xs) ≡ drop a xs
take_rest a xs = take_all (length xs - a) (drop a xs) (simp length-drop (omega arith))

-- ---- lists that are joined

-- Joined lists give the joined results.
pub concat_map-append : {A : Type 0} (f : A → List ℕ) (xs ys : List A) → concat_map f (xs ++ ys) ≡ concat_map f xs ++ concat_map f ys
unfolding concat_map
concat_map-append f [] ys = refl
concat_map-append f (x ∷ xs) ys =
    ap (λ (l : List ℕ). f x ++ l) (concat_map-append f xs ys) ∙ sym (append_assoc (f x) (concat_map f xs) (concat_map f ys))

-- One entry more gives one list more.
concat_map_more : {A : Type 0} (f : A → List ℕ) (xs : List A) (i : ℕ) (d : A) → i < length xs
    → concat_map f (take (suc i) xs) ≡ concat_map f (take i xs) ++ f (get_or xs i d)
unfolding concat_map
concat_map_more f xs i d h =
    ap (concat_map f) (take-suc xs i d h) ∙ concat_map-append f (take i xs) (get_or xs i d ∷ [])
    ∙ ap (λ (l : List ℕ). concat_map f (take i xs) ++ l) (append-nil (f (get_or xs i d)))

-- The string dst, filled up to entry i with the lists of the first i entries of xs, each of k bytes, is filled up to
-- entry i + 1 once the part there has been written.
pub fill_more : {A : Type 0} (f : A → List ℕ) (xs : List A) (d : A) (k i : ℕ) (dst ys : List ℕ)
    → i < length xs → length (f (get_or xs i d)) ≡ k → k * i + k ≤ length dst → ys ≡ f (get_or xs i d)
    → take (k * i) dst ≡ concat_map f (take i xs)
    → take (k * (i + 1)) (patched (k * i) k ys dst) ≡ concat_map f (take (i + 1) xs)
fill_more f xs d k i dst ys h e room is so_far =
    let long : length ys ≡ k = ap length is ∙ e in
    let next : k * (i + 1) ≡ k * i + k = omega arith in
    ap (λ (n : ℕ). take n (patched (k * i) k ys dst)) next ∙ take-patched (k * i) k ys dst long room
    ∙ ap₂ ◌++◌ so_far is ∙ rw add-one (sym (concat_map_more f xs i d h))

-- What a loop carries that writes a string so: dst has room for the lists of count entries, and after i turns it has the first i.
pub record PartsWritten {A : Type 0} (f : A → List ℕ) (xs : List A) (k count i : ℕ) (dst : List ℕ) : Type 0 where
  pub entries : length xs ≡ count
  pub within : i ≤ count
  pub long : length dst ≡ k * count
  pub front : take (k * i) dst ≡ concat_map f (take i xs)

module _ {A : Type 0} {f : A → List ℕ} {xs : List A} {k count : ℕ} where
  pub parts_begun : {dst : List ℕ} → length xs ≡ count → length dst ≡ k * count → PartsWritten f xs k count 0 dst
  unfolding concat_map
  parts_begun {dst} entries long = record {
    entries = entries;
    within = zero-le;
    long = long;
    front = simp unary_clauses;
  }

  module _ {i : ℕ} {dst : List ℕ} (h : PartsWritten f xs k count i dst) where
    pub part_room : i < count → k * i + k ≤ length dst
    part_room in-it =
        let next : k * i + k ≡ k * (i + 1) = omega arith in
        rw (next, h.long) (mul-le-mul (le_refl k) (omega arith))

    -- One part more.
    pub parts_more : (d : A) {ys : List ℕ} → i < count → length ys ≡ k → ys ≡ f (get_or xs i d)
        → PartsWritten f xs k count (i + 1) (patched (k * i) (k * i + k - k * i) ys dst)
    parts_more d {ys} in-it long is =
        let step : k * i + k - k * i ≡ k = omega arith in
        let inside : i < length xs = omega (arith, h.entries) in
        rw step
        (record {
          entries = h.entries;
          within = omega arith;
          long = length-patched (k * i) k ys dst long (part_room in-it) ∙ h.long;
          front = fill_more f xs d k i dst ys inside (ap length (sym is) ∙ long) (part_room in-it) is h.front;
        })

    -- After the last part.
    pub parts_all : count ≤ i → dst ≡ concat_map f xs
    parts_all last =
        let all : i ≡ count = omega (arith, h.within) in
        let filled : length dst ≤ k * i = rw (all, h.long) (le_refl _) in
        sym (take_all (k * i) dst filled) ∙ h.front ∙ ap (concat_map f) (take_all i xs (omega (arith, h.entries)))

-- ---- digits

pub length_digits : (w n v : ℕ) → length (digits w n v) ≡ n
unfolding digits
length_digits w zero v = refl
length_digits w (suc n) v = ap suc (length_digits w n (v / 2 ^ w))

-- The library's eight bytes of a lane.
pub eight_digits : (v : ℕ) → to_le_bytes w64 v ≡ digits 8 8 v
unfolding digits
eight_digits v = sym (simp div-div-eq-div-mul)

-- Eight bytes of a string, one by one.
eight_read : (s : List ℕ) (i : ℕ) → i + 8 ≤ length s
    → take 8 (drop i s) ≡ get_or s i 0 ∷ get_or s (i + 1) 0 ∷ get_or s (i + 2) 0 ∷ get_or s (i + 3) 0 ∷ get_or s (i + 4) 0 ∷ get_or s (i + 5) 0
    ∷ get_or s (i + 6) 0 ∷ get_or s (i + 7) 0 ∷ []
eight_read s i h =
    let h0 : i < length s = omega arith in
    let h1 : suc i < length s = omega arith in
    let h2 : suc (suc i) < length s = omega arith in
    let h3 : suc (suc (suc i)) < length s = omega arith in
    let h4 : suc (suc (suc (suc i))) < length s = omega arith in
    let h5 : suc (suc (suc (suc (suc i)))) < length s = omega arith in
    let h6 : suc (suc (suc (suc (suc (suc i))))) < length s = omega arith in
    let h7 : suc (suc (suc (suc (suc (suc (suc i)))))) < length s = omega arith in
    simp towards_suc
    (rw (
      drop-cons s i 0 h0,
      drop-cons s (suc i) 0 h1,
      drop-cons s (suc (suc i)) 0 h2,
      drop-cons s (suc (suc (suc i))) 0 h3,
      drop-cons s (suc (suc (suc (suc i)))) 0 h4,
      drop-cons s (suc (suc (suc (suc (suc i))))) 0 h5,
      drop-cons s (suc (suc (suc (suc (suc (suc i)))))) 0 h6,
      drop-cons s (suc (suc (suc (suc (suc (suc (suc i))))))) 0 h7,
    ))

-- The library's number of eight bytes.
eight_worth : (a b c d e f g h : ℕ) → from_le_bytes w64 (a ∷ b ∷ c ∷ d ∷ e ∷ f ∷ g ∷ h ∷ []) ≡ value 8 (a ∷ b ∷ c ∷ d ∷ e ∷ f ∷ g ∷ h ∷ [])
unfolding value
eight_worth a b c d e f g h = omega arith

-- A lane is that of its eight bytes.
pub lane_loaded : (s : List ℕ) (i : ℕ) {bytes : List ℕ} → i + 8 ≤ length s → bytes ≡ take (i + 8 - i) (drop i s)
    → from_le_bytes w64 bytes ≡ lane_at s i
lane_loaded s i room is =
    let eight : i + 8 - i ≡ 8 = omega arith in
    let read = eight_read s i room in
    ap (from_le_bytes w64) (is ∙ ap (λ (n : ℕ). take n (drop i s)) eight ∙ read) ∙ eight_worth _ _ _ _ _ _ _ _
    ∙ sym (ap (value 8) read)

-- ---- bytes added into a string

pub length-xor_into : (s p : List ℕ) → length (xor_into s p) ≡ length s
unfolding xor_into
length-xor_into [] p = refl
length-xor_into (s ∷ ss) [] = refl
length-xor_into (s ∷ ss) (b ∷ bs) = ap suc (length-xor_into ss bs)

pub xor_into_nothing : (s : List ℕ) → xor_into s [] ≡ s
unfolding xor_into
xor_into_nothing [] = refl
xor_into_nothing (s ∷ ss) = refl

-- One byte more is added at its place.
pub xor_into_more : (s p : List ℕ) (i : ℕ) → i < length p → i < length s
    → xor_into s (take (suc i) p) ≡ set (xor_into s (take i p)) i (bit_xor (get_or (xor_into s (take i p)) i 0) (get_or p i 0))
unfolding xor_into
xor_into_more [] p i h l = absurd (not-suc-le-zero l)
xor_into_more (s ∷ ss) [] i h l = absurd (not-suc-le-zero h)
xor_into_more (s ∷ ss) (b ∷ bs) zero h l = ap (λ (r : List ℕ). bit_xor s b ∷ r) (xor_into_nothing ss)
xor_into_more (s ∷ ss) (b ∷ bs) (suc i) h l =
    ap (λ (r : List ℕ). bit_xor s b ∷ r) (xor_into_more ss bs i (le_of_suc-le-suc h) (le_of_suc-le-suc l))

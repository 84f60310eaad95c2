-- Laws of slices that are filled part by part. Assumes nothing.
use mathlib.Core.Path.{◌≡◌, refl, sym, ap, ap₂, ◌∙◌}
use mathlib.Core.List.{List, [], ◌++◌, append_assoc, append-nil}
use Prim.Native.Nat.{ℕ, zero, suc, ◌+◌, ◌-◌, ◌*◌, ◌^◌, ◌≤◌, ◌<◌}
use native.Mathlib.Nat.{add-sub_cancel_left, le_refl, le_step, mul-zero, mul_left_comm}
use native.Mathlib.Numerals.{add-one}
use native.Mathlib.Omega.{arith}
use lib.ListN.{length, take, drop, length-take, length-drop, length-append, drop_of_length-le}
use lib.Seq.{take_at, drop_at, drop-drop}
use lib.Pow.{pow_pos}
use Rattle.keccak.specs.Lists.{value, digits, patched}
use Rattle.keccak.proofs.Parts.{length-patched, take-patched, patched-rest, take_rest}
use Rattle.bits.specs.Bits.{Below, pack, low_bits}
use Rattle.bits.proofs.Digits.{pack-append, low_bits-append}
use Rattle.kindi.specs.Keys.{joined}
use Rattle.kindi.proofs.Strings.{length-joined, joined_below}
use Rattle.vectors.proofs.Amounts.{part_length}

-- ---- parts of slices

-- The length of a part from a on.
pub rest_long : (a : ℕ) (xs : List ℕ) {m : ℕ} → a + m ≤ length xs → m ≤ length (take (length xs - a) (drop a xs))
rest_long a xs h = rw (take_rest a xs) (simp length-drop (omega arith))

pub rest_is : (a k : ℕ) (xs : List ℕ) → a + k ≡ length xs → length (take (length xs - a) (drop a xs)) ≡ k
rest_is a k xs e = ap length (take_rest a xs) ∙ simp length-drop (omega arith)

-- A part that has come back as long as it was leaves the slice as long as it was: k entries from a on, and the first a.
pub same_long : (a k : ℕ) (ys xs : List ℕ) → a + k ≤ length xs → length ys ≡ length (take (a + k - a) (drop a xs))
    → length (patched a (a + k - a) ys xs) ≡ length xs
same_long a k ys xs h e =
    let long : a + k - a ≡ k = omega arith in
    length-patched a (a + k - a) ys xs (e ∙ part_length a k xs h ∙ sym long) (omega arith)

pub first_same : (a : ℕ) (ys xs : List ℕ) → length ys ≡ length (take a xs) → length (ys ++ drop a xs) ≡ length xs
first_same a ys xs e = simp (length-append, e, length-take, length-drop) (omega arith)

-- The first a entries and then the rest, or the next k.
pub then-rest : (a : ℕ) (xs ys zs : List ℕ) → length ys ≡ a → patched a (length (ys ++ drop a xs) - a) zs (ys ++ drop a xs) ≡ ys ++ zs
then-rest a xs ys zs e = patched-rest a zs (ys ++ drop a xs) ∙ ap (λ (l : List ℕ). l ++ zs) (take_at ys (drop a xs) a e)

pub then_next : (a k : ℕ) (xs ys zs : List ℕ) → length ys ≡ a → length zs ≡ k → a + k ≤ length xs
    → take (a + k) (patched a (a + k - a) zs (ys ++ drop a xs)) ≡ ys ++ zs
then_next a k xs ys zs e l h =
    let room : a + k ≤ length (ys ++ drop a xs) = simp (length-append, length-drop, e) (omega arith) in
    ap (λ (j : ℕ). take (a + k) (patched a j zs (ys ++ drop a xs))) (add-sub_cancel_left a k) ∙ take-patched a k zs (ys ++ drop a xs) l room
    ∙ ap (λ (t : List ℕ). t ++ zs) (take_at ys (drop a xs) a e)

-- ---- parts one after another

-- The same parts are joined.
pub joined_same : (m : ℕ) (f g : ℕ → List ℕ) → ((j : ℕ) → j < m → f j ≡ g j) → joined m f ≡ joined m g
unfolding joined
joined_same zero f g e = refl
joined_same (suc m) f g e = ap₂ ◌++◌ (joined_same m f g (λ j h. e j (le_step h))) (e m (le_refl (suc m)))

-- The low bits of joined lists.
pub low_bits-joined : (w m : ℕ) (f : ℕ → List ℕ) → low_bits w (joined m f) ≡ joined m (λ j. low_bits w (f j))
unfolding joined low_bits
low_bits-joined w zero f = refl
low_bits-joined w (suc m) f = low_bits-append w (joined m f) (f m) ∙ ap (λ (l : List ℕ). l ++ low_bits w (f m)) (low_bits-joined w m f)

-- Nothing is there yet.
pub joined_none : (g : ℕ → List ℕ) (xs : List ℕ) → xs ≡ joined 0 g ++ xs
unfolding joined
joined_none g xs = refl

-- Once part i is written, i + 1 parts are there.
pub joined_turn : (i at c : ℕ) (g : ℕ → List ℕ) (dst₀ dst ys : List ℕ) → length (joined i g) ≡ at
    → dst ≡ joined i g ++ drop at dst₀ → ys ≡ g i → patched at (at + c - at) ys dst ≡ joined (i + 1) g ++ drop (at + c) dst₀
unfolding joined
joined_turn i at c g dst₀ dst ys long e y =
    let before : take at dst ≡ joined i g = ap (take at) e ∙ take_at (joined i g) (drop at dst₀) at long in
    let after : drop c (drop at dst) ≡ drop (at + c) dst₀
    = ap (λ (l : List ℕ). drop c (drop at l)) e ∙ ap (drop c) (drop_at (joined i g) (drop at dst₀) at long) ∙ drop-drop c at dst₀ in
    rw (add-sub_cancel_left at c, add-one i)
    (ap₂ ◌++◌ before (ap₂ ◌++◌ y after) ∙ sym (append_assoc (joined i g) (g i) (drop (at + c) dst₀)))

-- All parts are there.
pub joined_end : (m at : ℕ) (g : ℕ → List ℕ) (dst₀ dst : List ℕ) → length dst₀ ≤ at → dst ≡ joined m g ++ drop at dst₀ → dst ≡ joined m g
joined_end m at g dst₀ dst h e =
    e ∙ ap (λ (l : List ℕ). joined m g ++ l) (drop_of_length-le dst₀ {i = at} h) ∙ append-nil (joined m g)

pack_none : (w : ℕ) → pack w [] ≡ []
unfolding pack value digits
pack_none w = rw (mul-zero w) refl

-- Lists of whole bytes may be packed one by one.
pub pack-joined : (w n c m : ℕ) (f : ℕ → List ℕ) → w * n ≡ 8 * c → ((j : ℕ) → j < m → length (f j) ≡ n)
    → ((j : ℕ) → j < m → Below (2 ^ w) (f j)) → pack w (joined m f) ≡ joined m (λ j. pack w (f j))
unfolding joined
pack-joined w n c zero f e long below = pack_none w
pack-joined w n c (suc m) f e long below =
    let long' : (j : ℕ) → j < m → length (f j) ≡ n = λ j h. long j (le_step h) in
    let below' : (j : ℕ) → j < m → Below (2 ^ w) (f j) = λ j h. below j (le_step h) in
    let whole : w * length (joined m f) ≡ 8 * (m * c)
    = ap (λ (k : ℕ). w * k) (length-joined m n f long') ∙ mul_left_comm w m n ∙ ap (λ (k : ℕ). m * k) e ∙ mul_left_comm m 8 c in
    pack-append w (m * c) (joined m f) (f m) (joined_below (2 ^ w) m f (pow_pos w) below') whole
    ∙ ap (λ (l : List ℕ). l ++ pack w (f m)) (pack-joined w n c m f e long' below')

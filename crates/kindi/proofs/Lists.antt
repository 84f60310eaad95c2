-- Laws of lists that are searched entry by entry, and of strings of parts of one length. Assumes nothing.
use mathlib.Core.Path.{◌≡◌, refl, sym, ap, ◌∙◌}
use mathlib.Core.Bool.{Bool, true, false, ◌||◌}
use mathlib.Core.List.{List, [], ◌∷◌, ◌++◌}
use Prim.Native.Nat.{ℕ, zero, suc, ◌+◌, ◌*◌, ◌≤◌, ◌<◌, zero-le, suc-le-suc}
use native.Mathlib.Nat.{not-suc-le-zero, le_of_suc-le-suc, suc-mul, mul-le-mul_right}
use native.Mathlib.Omega.{arith}
use lib.ListN.{length, drop, length-take, length-drop}
use lib.Seq.{ext_get_or, get_or-take, get_or-drop}
use Rattle.keccak.specs.Lists.{tabulate}
use Rattle.keccak.proofs.Entries.{tabulate-add}
use Rattle.kindi.specs.Keys.{joined}
use Rattle.kindi.specs.Answers.{some, part_at}
use Rattle.kindi.proofs.Chains.{never}
use Rattle.kindi.proofs.Strings.{joined_at, length-joined}

-- ---- tests, one after another

or-false : (a : Bool) → a || false ≡ a
or-false true = refl
or-false false = refl

or-true : (a : Bool) → a || true ≡ true
or-true true = refl
or-true false = refl

or_assoc : (a b c : Bool) → a || (b || c) ≡ (a || b) || c
or_assoc true b c = refl
or_assoc false b c = refl

or_either : {X : Type 0} (a b : Bool) → a || b ≡ true → (a ≡ true → X) → (b ≡ true → X) → X
or_either true b e f g = f refl
or_either false b e f g = g e

some_end : (xs : List Bool) (b : Bool) → some (xs ++ (b ∷ [])) ≡ some xs || b
unfolding some
some_end [] b = or-false b
some_end (x ∷ xs) b = ap (λ (t : Bool). x || t) (some_end xs b) ∙ or_assoc x (some xs) b

-- One test more.
pub some_more : (i : ℕ) (f : ℕ → Bool) → some (tabulate (i + 1) f) ≡ some (tabulate i f) || f i
unfolding tabulate
some_more i f =
    let last : i + 0 ≡ i = omega arith in
    ap some (tabulate-add i 1 f ∙ ap (λ (k : ℕ). tabulate i f ++ (f k ∷ [])) last) ∙ some_end (tabulate i f) (f i)

-- Where some of n tests hold, one does at a place.
pub some_place : (n : ℕ) (f : ℕ → Bool) → some (tabulate n f) ≡ true → (i : ℕ) × (i < n) × (f i ≡ true)
unfolding some tabulate
some_place zero f e = never (cc)
some_place (suc n) f e =
    or_either (f zero) (some (tabulate n (λ i. f (suc i)))) e (λ h. (zero, suc-le-suc zero-le, h))
    (λ h.
    let found = some_place n (λ i. f (suc i)) h in
    (suc found.0, suc-le-suc found.1, found.2))

-- And where one does, some do.
pub some_at : (n : ℕ) (f : ℕ → Bool) (i : ℕ) → i < n → f i ≡ true → some (tabulate n f) ≡ true
unfolding some tabulate
some_at zero f i h e = absurd (not-suc-le-zero h)
some_at (suc n) f zero h e = rw e refl
some_at (suc n) f (suc i) h e = rw (some_at n (λ k. f (suc k)) i (le_of_suc-le-suc h) e) (or-true (f zero))

-- ---- strings of m parts

-- Part i lies within the string.
pub parts_within : {i m : ℕ} (long : ℕ) → i < m → i * long + long ≤ m * long
parts_within {i} {m} long h = omega (arith, mul-le-mul_right long h, suc-mul i long)

-- It has the length of a part.
pub part_long : {i m : ℕ} (long : ℕ) (string : List ℕ) → length string ≡ m * long → i < m → length (part_at long string i) ≡ long
part_long {i} {m} long string e h = simp (length-take, length-drop) (omega (arith, e, parts_within long h))

-- Part i of lists of one length, one after another, is list i.
pub part-joined : (m long : ℕ) (f : ℕ → List ℕ) (i : ℕ) → ((j : ℕ) → j < m → length (f j) ≡ long) → i < m
    → part_at long (joined m f) i ≡ f i
part-joined m long f i each h =
    let sized : length (part_at long (joined m f) i) ≡ long = part_long long (joined m f) (length-joined m long f each) h in
    ext_get_or 0 (part_at long (joined m f) i) (f i) (sized ∙ sym (each i h))
    (λ x l.
    let within : x < long = rw sized at l in
    get_or-take long (drop (i * long) (joined m f)) x 0 within ∙ get_or-drop (i * long) (joined m f) x 0 ∙ joined_at m long f i x each h within)

-- Laws of the end of a padded message, read byte by byte from the front, of its comparison with another, and of the message output. Assumes nothing.
use mathlib.Core.Path.{◌≡◌, refl, sym, ap, ap₂, ◌∙◌}
use mathlib.Core.Bool.{Bool, true, false, cond, ◌&&◌}
use mathlib.Core.List.{List, [], ◌∷◌, ◌++◌}
use Prim.Native.Nat.{ℕ, suc, ◌+◌, ◌-◌, ◌≤◌, ◌<◌}
use native.Mathlib.Omega.{arith}
use borrow.Author.Tests.{eqb-true, eq-eqb}
use lib.Bits.{bit_xor, xor_self, xor_zero_r}
use lib.Dec.{eqb}
use lib.ListN.{length, take, drop, get_or, replicate, length-append, length-take, length-drop}
use lib.Seq.{take-suc, take-append_seam}
use Rattle.keccak.specs.Lists.{patched}
use Rattle.keccak.specs.Strings.{xor_into}
use Rattle.keccak.proofs.Parts.{xor_into_nothing, patched-rest}
use Rattle.kindi.specs.declared.Params.{Params}
use Rattle.kindi.specs.Params.{padded_length}
use Rattle.kindi.specs.Encrypt.{padded}
use Rattle.kindi.specs.Decrypt.{Ending, marked, other, after, ending}
use Rattle.kindi.specs.Answers.{same}
use Rattle.kindi.specs.Calls.{message_output}
use Rattle.kindi.proofs.Padding.{xor_twice}
use Rattle.decryption_calls.specs.Fitting.{ending_of, all_zero}

-- ---- the last non-zero byte

-- A byte in front of a list that goes by cases.
after-cond : (x : ℕ) (t o : Bool) (e m : Ending) → after x (cond t e (cond o m other)) ≡ cond t (after x e) (cond o (after x m) other)
unfolding after
after-cond x true o e m = refl
after-cond x false true e m = refl
after-cond x false false e m = refl

-- The ending with one byte more at the end.
ending_more : (xs : List ℕ) (b : ℕ) → ending (xs ++ (b ∷ [])) ≡ cond (eqb b 0) (ending xs) (cond (eqb b 1) (marked xs) other)
unfolding ending after
ending_more [] b = refl
ending_more (x ∷ xs) b = ap (after x) (ending_more xs b) ∙ after-cond x (eqb b 0) (eqb b 1) (ending xs) (marked xs)

-- So the last non-zero byte and its place are the old ones where the byte is 0, else the byte and its place.
ending-step : (c : List ℕ) (b i mark len : ℕ) (t : Bool) → eqb b 0 ≡ t → ending (take i c) ≡ ending_of c mark len
    → cond t (ending (take i c)) (cond (eqb b 1) (marked (take i c)) other) ≡ ending_of c (cond t mark b) (cond t len i)
unfolding ending_of
ending-step c b i mark len true e h = h
ending-step c b i mark len false e h = rw e

pub ending_next : (c : List ℕ) (i mark len : ℕ) → i < length c → ending (take i c) ≡ ending_of c mark len
    → ending (take (suc i) c) ≡ ending_of c (cond (eqb (get_or c i 0) 0) mark (get_or c i 0)) (cond (eqb (get_or c i 0) 0) len i)
ending_next c i mark len h e =
    let b = get_or c i 0 in
    ap ending (take-suc c i 0 h) ∙ ending_more (take i c) b ∙ ending-step c b i mark len (eqb b 0) refl e

-- The place is among the bytes that are read.
pub place_within : (t : Bool) {len i : ℕ} → len ≤ i → cond t len i ≤ i + 1
place_within true h = omega arith
place_within false h = omega arith

-- Of no byte.
pub ending_none : (c : List ℕ) → ending (take 0 c) ≡ ending_of c 0 0
unfolding ending ending_of
ending_none c = refl

-- ---- comparison

-- Two tests that hold at the same time are the same.
same_test : (a b : Bool) → (a ≡ true → b ≡ true) → (b ≡ true → a ≡ true) → a ≡ b
same_test true b f g = sym (f refl)
same_test false true f g = g refl
same_test false false f g = refl

-- Two numbers are equal exactly when all bits of the one added to the other are 0.
xor_equal : (x y : ℕ) → eqb (bit_xor x y) 0 ≡ eqb x y
xor_equal x y =
    same_test (eqb (bit_xor x y) 0) (eqb x y)
    (λ e. eq-eqb x y (sym (xor_zero_r x) ∙ ap (bit_xor x) (sym (eqb-true (bit_xor x y) 0 e)) ∙ xor_twice x y))
    (λ e. eq-eqb (bit_xor x y) 0 (ap (bit_xor x) (sym (eqb-true x y e)) ∙ xor_self x))

-- A list is the same as zeros exactly when it is all zeros.
same_zeros : (c : List ℕ) → same c (replicate (length c) 0) ≡ all_zero c
unfolding same all_zero
same_zeros [] = refl
same_zeros (x ∷ xs) = ap (λ (t : Bool). eqb x 0 && t) (same_zeros xs)

-- A list is the same as a message with its mark and zeros exactly when the two added are zeros.
same_marked : (c d : List ℕ) (n : ℕ) → length c ≡ length d + suc n
    → same c (d ++ (1 ∷ replicate n 0)) ≡ all_zero (xor_into c (d ++ (1 ∷ [])))
unfolding same all_zero xor_into
same_marked [] [] n l = absurd (omega arith)
same_marked [] (y ∷ ys) n l = absurd (omega arith)
same_marked (x ∷ xs) [] n l =
    let long : n ≡ length xs = omega arith in
    ap₂ ◌&&◌ (sym (xor_equal x 1))
    (ap (λ (m : ℕ). same xs (replicate m 0)) long ∙ same_zeros xs ∙ ap all_zero (sym (xor_into_nothing xs)))
same_marked (x ∷ xs) (y ∷ ys) n l = ap₂ ◌&&◌ (sym (xor_equal x y)) (same_marked xs ys n (omega arith))

pub same-padded : (P : Params) (c d : List ℕ) → length c ≡ padded_length P → length d < padded_length P
    → same c (padded P d) ≡ all_zero (xor_into c (d ++ (1 ∷ [])))
unfolding padded
same-padded P c d l h = same_marked c d (padded_length P - (length d + 1)) (omega arith)

-- ---- the message output

-- A message that is copied into a buffer whose rest is wiped.
pub message_written : (src dst ys : List ℕ) {xs : List ℕ} → length src ≤ length dst → xs ≡ src ++ drop (length src) dst
    → ys ≡ replicate (length (take (length xs - length src) (drop (length src) xs))) 0
    → patched (length src) (length xs - length src) ys xs ≡ message_output (length dst) src
unfolding message_output
message_written src dst ys {xs} h e z =
    let long : length xs ≡ length dst = ap length e ∙ simp (length-append, length-drop) (omega arith) in
    let rest : length (take (length xs - length src) (drop (length src) xs)) ≡ length dst - length src =
    simp (length-take, length-drop) (omega arith)
    in
    patched-rest (length src) ys xs
    ∙ ap₂ ◌++◌ (ap (take (length src)) e ∙ take-append_seam src (drop (length src) dst))
    (z ∙ ap (λ (n : ℕ). replicate n 0) rest)

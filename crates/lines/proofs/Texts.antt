-- Laws of texts: one written after another, and numbers in decimal, digit by digit. Assumes nothing.
use mathlib.Core.Path.{◌≡◌, refl, sym, ap, ◌∙◌}
use mathlib.Core.Bool.{Bool, true, false, cond}
use mathlib.Core.List.{List, [], ◌∷◌, ◌++◌, append_assoc}
use Prim.Native.Nat.{ℕ, zero, suc, ◌+◌, ◌-◌, ◌*◌, ◌/◌, ◌%◌, ◌^◌, ◌≤◌, ◌<◌}
use native.Mathlib.Omega.{arith}
use borrow.Author.Tests.{lt-ltb, le-ltb, ltb-true, ltb-false, ne_eqb}
use lib.Dec.{eqb, ltb}
use lib.ListN.{length, take, drop, length-append}
use lib.Seq.{drop-drop}
use Rattle.keccak.specs.Lists.{concat_map, patched}
use Rattle.keccak.proofs.Parts.{take-patched, drop-patched, concat_map-append}
use Rattle.hex_digits.specs.Digits.{digit, byte_digits, hexadecimal}
use Rattle.lines.specs.Line.{Written, decimal_in, decimal, fields, kind_field, output_field, line, end_line, feeds}

-- ---- writing

-- Lists that are the same from a place on are so from any later place on.
same_behind : (xs ys : List ℕ) (n m : ℕ) → drop n xs ≡ drop n ys → drop (n + m) xs ≡ drop (n + m) ys
same_behind xs ys n m e = sym (drop-drop m n xs) ∙ ap (drop m) e ∙ drop-drop m n ys

-- One text after another.
pub written_then : {entry : List ℕ} {at : ℕ} {first : List ℕ} {n : ℕ} {between second : List ℕ} {next : ℕ} {exit : List ℕ}
    → Written entry at first n between → Written between n second next exit → Written entry at (first ++ second) next exit
written_then {entry} {at} {first} {n} {between} {second} a b =
    record {
      next_is = b.next_is ∙ ap (λ (m : ℕ). m + length second) a.next_is ∙ simp length-append (omega arith);
      stands = b.stands ∙ ap (λ (l : List ℕ). l ++ second) a.stands ∙ append_assoc (take at entry) first second;
      behind = b.behind ∙ rw b.next_is (same_behind between entry n (length second) a.behind);
    }

-- A text under another description.
pub written_as : {entry : List ℕ} {at : ℕ} {text other : List ℕ} {next : ℕ} {exit : List ℕ} → text ≡ other
    → Written entry at text next exit → Written entry at other next exit
written_as e w = rw e at w

-- A part from `at` to an end that has come back.
written_to : (entry text : List ℕ) (at k : ℕ) → length text ≡ k → at + k ≤ length entry
    → Written entry at text (at + k) (patched at (at + k - at) text entry)
written_to entry text at k e h =
    let width : at + k - at ≡ k = omega arith in
    record {
      next_is = rw e refl;
      stands = rw width (take-patched at k text entry e h);
      behind = rw width (drop-patched at k text entry e h);
    }

-- A text that was copied there.
pub written_text : (entry text : List ℕ) {copied : List ℕ} (at : ℕ) → copied ≡ text → at + length text ≤ length entry
    → Written entry at text (at + length text) (patched at (at + length text - at) copied entry)
written_text entry text at is room = rw is (written_to entry text at (length text) refl room)

-- ---- decimal

-- By the two values of a test.
either : {A : Type 0} (b : Bool) → (b ≡ true → A) → (b ≡ false → A) → A
either true f g = f refl
either false f g = g refl

-- Two texts that differ where a test fails alone.
where_false : (b : Bool) (x y z : List ℕ) → (b ≡ false → y ≡ z) → cond b x y ≡ cond b x z
where_false true x y z f = refl
where_false false x y z f = f refl

-- Any places that are more than the number do.
places : (m k v : ℕ) → v < m → v < k → decimal_in m v ≡ decimal_in k v
unfolding decimal_in
places zero k v h i = absurd (omega arith)
places (suc m) zero v h i = absurd (omega arith)
places (suc m) (suc k) v h i =
    where_false (ltb v 10) _ _ _
    (λ f. let l = ltb-false v 10 f in ap (λ (ds : List ℕ). ds ++ ((48 + v % 10) ∷ [])) (places m k (v / 10) (omega arith) (omega arith)))

-- A number of one digit.
pub decimal-one : (v : ℕ) → v < 10 → decimal v ≡ (48 + v) ∷ []
unfolding decimal decimal_in
decimal-one v h = rw (lt-ltb v 10 h) refl

-- The digits of a tenth, then the last digit.
pub decimal_more : (v : ℕ) → 10 ≤ v → decimal v ≡ decimal (v / 10) ++ ((48 + v % 10) ∷ [])
unfolding decimal decimal_in
decimal_more v h =
    rw (le-ltb v 10 h) (ap (λ (ds : List ℕ). ds ++ ((48 + v % 10) ∷ [])) (places v (suc (v / 10)) (v / 10) (omega arith) (omega arith)))

-- So as many digits as a tenth has, and one more.
pub tenth_long : (v : ℕ) → 10 ≤ v → length (decimal v) ≡ length (decimal (v / 10)) + 1
tenth_long v h = simp (decimal_more v h, length-append)

-- A number below 10^(d + 1) has at most d + 1 digits.
decimal_long : (d v : ℕ) → v < 10 ^ suc d → length (decimal v) ≤ suc d
decimal_long zero v h = rw (decimal-one v (omega arith)) (omega arith)
decimal_long (suc d) v h =
    either (ltb v 10) (λ t. rw (decimal-one v (ltb-true v 10 t)) (omega arith))
    (λ f.
    let tenth = decimal_long d (v / 10) (omega arith) in
    omega (arith, tenth_long v (ltb-false v 10 f)))

-- So one of 64 bits has at most 20.
pub decimal_fits : (v : ℕ) → v < 2 ^ 64 → length (decimal v) ≤ 20
decimal_fits v h = decimal_long 19 v (omega arith)

-- ---- fields

-- Bytes after others.
hexadecimal-append : (xs ys : List ℕ) → hexadecimal (xs ++ ys) ≡ hexadecimal xs ++ hexadecimal ys
unfolding hexadecimal
hexadecimal-append xs ys = concat_map-append byte_digits xs ys

-- Two digits a byte.
length-hexadecimal : (xs : List ℕ) → length (hexadecimal xs) ≡ 2 * length xs
unfolding hexadecimal concat_map byte_digits
length-hexadecimal [] = refl
length-hexadecimal (x ∷ xs) = ap (λ (n : ℕ). suc (suc n)) (length-hexadecimal xs) ∙ omega arith

-- An output that is empty.
none_there : (xs : List ℕ) → length xs ≡ 0 → 45 ∷ [] ≡ output_field xs
unfolding output_field
none_there [] e = refl
none_there (x ∷ xs) e = absurd (omega arith)

-- An output that is not empty.
some_there : (xs : List ℕ) → 0 < length xs → hexadecimal xs ≡ output_field xs
unfolding output_field
some_there [] h = absurd (omega arith)
some_there (x ∷ xs) h = refl

-- ---- what a field, a line and the last line are made of

-- Bytes in hexadecimal, spelt into a part.
pub written_hex : (entry bytes : List ℕ) {text : List ℕ} (at : ℕ) → text ≡ hexadecimal bytes → at + 2 * length bytes ≤ length entry
    → Written entry at (hexadecimal bytes) (at + 2 * length bytes) (patched at (at + 2 * length bytes - at) text entry)
written_hex entry bytes {text} at is room =
    written_as is (written_to entry text at (2 * length bytes) (ap length is ∙ length-hexadecimal bytes) room)

-- An output that is empty.
pub written_none : {entry exit : List ℕ} {at next : ℕ} (output : List ℕ) → length output ≡ 0 → Written entry at (45 ∷ []) next exit
    → Written entry at (output_field output) next exit
written_none output none w = written_as (none_there output none) w

-- An output of two parts that is not.
pub written_output : {entry between exit : List ℕ} {at n next : ℕ} (first second : List ℕ) → 0 < length first + length second
    → Written entry at (hexadecimal first) n between → Written between n (hexadecimal second) next exit
    → Written entry at (output_field (first ++ second)) next exit
written_output first second some a b =
    let there : 0 < length (first ++ second) = simp length-append some in
    written_as (sym (hexadecimal-append first second) ∙ some_there (first ++ second) there) (written_then a b)

-- The fields of a line, each with what stands after it, are the line.
line-fields : (number : ℕ) (kind : List ℕ) (status : ℕ) (output : List ℕ)
    → (((((decimal number ++ (32 ∷ [])) ++ (kind ++ (32 ∷ []))) ++ (decimal status ++ (32 ∷ []))) ++ (decimal (length output) ++ (32 ∷ [])))
    ++ output_field output) ++ (10 ∷ []) ≡ line number kind status output
unfolding line fields
line-fields number kind status output = simp append_assoc

-- So the line is written by its fields, one after another.
pub written_line : {b0 b1 b2 b3 b4 b5 b6 : List ℕ} {n0 n1 n2 n3 n4 n5 n6 : ℕ} (number : ℕ) (kind : List ℕ) (status size : ℕ)
    (output : List ℕ) → size ≡ length output → Written b0 n0 (decimal number ++ (32 ∷ [])) n1 b1 → Written b1 n1 (kind ++ (32 ∷ [])) n2 b2
    → Written b2 n2 (decimal status ++ (32 ∷ [])) n3 b3 → Written b3 n3 (decimal size ++ (32 ∷ [])) n4 b4
    → Written b4 n4 (output_field output) n5 b5 → Written b5 n5 (10 ∷ []) n6 b6 → Written b0 n0 (line number kind status output) n6 b6
written_line number kind status size output is w1 w2 w3 w4 w5 w6 =
    written_as (line-fields number kind status output)
    (written_then (written_then (written_then (written_then (written_then w1 w2) w3) (rw is at w4)) w5) w6)

-- The parts of the last line are the last line.
end_fields : (number : ℕ) → ((101 ∷ 110 ∷ 100 ∷ 32 ∷ []) ++ decimal number) ++ (10 ∷ []) ≡ end_line number
unfolding end_line fields
end_fields number = refl

-- So it is written by its parts, one after another.
pub written_end : {b0 b1 b2 b3 : List ℕ} {n0 n1 n2 n3 : ℕ} (number : ℕ) → Written b0 n0 (101 ∷ 110 ∷ 100 ∷ 32 ∷ []) n1 b1
    → Written b1 n1 (decimal number) n2 b2 → Written b2 n2 (10 ∷ []) n3 b3 → Written b0 n0 (end_line number) n3 b3
written_end number w1 w2 w3 = written_as (end_fields number) (written_then (written_then w1 w2) w3)

-- ---- line feeds

-- One more where a test holds, and others.
feed_more : (b : Bool) (m n : ℕ) → cond b (suc (m + n)) (m + n) ≡ cond b (suc m) m + n
feed_more true m n = omega arith
feed_more false m n = refl

-- Those of two texts.
pub feeds-append : (xs ys : List ℕ) → feeds (xs ++ ys) ≡ feeds xs + feeds ys
unfolding feeds
feeds-append [] ys = omega arith
feeds-append (x ∷ xs) ys = rw (feeds-append xs ys) (feed_more (eqb x 10) (feeds xs) (feeds ys))

-- A byte that is none.
none : (x : ℕ) (xs : List ℕ) → 10 < x → feeds (x ∷ xs) ≡ feeds xs
unfolding feeds
none x xs h = rw (ne_eqb x 10 (λ e. omega arith)) refl

-- What holds of both holds of the one that a test picks.
one_of : {A : Type 0} (b : Bool) {x y : A} (Is : A → Type 0) → Is x → Is y → Is (cond b x y)
one_of true Is p q = p
one_of false Is p q = q

-- A digit is none, so a number has none, nor has hexadecimal.
decimal_in_feeds : (places v : ℕ) → feeds (decimal_in places v) ≡ 0
unfolding decimal_in feeds
decimal_in_feeds zero v = refl
decimal_in_feeds (suc places) v =
    one_of (ltb v 10) (λ (l : List ℕ). feeds l ≡ 0) (none (48 + v) [] (omega arith))
    (feeds-append (decimal_in places (v / 10)) ((48 + v % 10) ∷ [])
    ∙ omega (arith, decimal_in_feeds places (v / 10), none (48 + v % 10) [] (omega arith)))

decimal-feeds : (v : ℕ) → feeds (decimal v) ≡ 0
unfolding decimal
decimal-feeds v = decimal_in_feeds (suc v) v

digit_large : (d : ℕ) → 10 < digit d
digit_large d = one_of (ltb d 10) (λ (n : ℕ). 10 < n) (omega arith) (omega arith)

hexadecimal-feeds : (xs : List ℕ) → feeds (hexadecimal xs) ≡ 0
unfolding hexadecimal concat_map byte_digits feeds
hexadecimal-feeds [] = refl
hexadecimal-feeds (x ∷ xs) =
    none (digit (x / 16)) (digit (x % 16) ∷ concat_map byte_digits xs) (digit_large (x / 16))
    ∙ none (digit (x % 16)) (concat_map byte_digits xs) (digit_large (x % 16)) ∙ hexadecimal-feeds xs

output-feeds : (xs : List ℕ) → feeds (output_field xs) ≡ 0
unfolding output_field feeds
output-feeds [] = refl
output-feeds (x ∷ xs) = hexadecimal-feeds (x ∷ xs)

pub kind_feeds : (known : Bool) (kind : ℕ) → feeds (kind_field known kind) ≡ 0
unfolding feeds
kind_feeds true kind = decimal-feeds kind
kind_feeds false kind = refl

-- A field and the space after it have none; the end of the line is one.
field_feeds : (x y : List ℕ) (rest : List (List ℕ)) → feeds x ≡ 0 → feeds (fields (x ∷ (y ∷ rest))) ≡ feeds (fields (y ∷ rest))
unfolding fields
field_feeds x y rest e = feeds-append x _ ∙ omega (arith, e, none 32 (fields (y ∷ rest)) (omega arith))

last_feeds : (x : List ℕ) → feeds x ≡ 0 → feeds (fields (x ∷ [])) ≡ 1
unfolding fields feeds
last_feeds x e = feeds-append x (10 ∷ []) ∙ omega (arith, e)

-- A line has one, at its end.
pub line-feeds : (number : ℕ) (kind : List ℕ) (status : ℕ) (output : List ℕ) → feeds kind ≡ 0 → feeds (line number kind status output) ≡ 1
unfolding line
line-feeds number kind status output e =
    field_feeds (decimal number) kind _ (decimal-feeds number) ∙ field_feeds kind (decimal status) _ e
    ∙ field_feeds (decimal status) (decimal (length output)) _ (decimal-feeds status)
    ∙ field_feeds (decimal (length output)) (output_field output) [] (decimal-feeds (length output))
    ∙ last_feeds (output_field output) (output-feeds output)

pub end_feeds : (number : ℕ) → feeds (end_line number) ≡ 1
unfolding end_line feeds
end_feeds number = field_feeds (101 ∷ 110 ∷ 100 ∷ []) (decimal number) [] refl ∙ last_feeds (decimal number) (decimal-feeds number)

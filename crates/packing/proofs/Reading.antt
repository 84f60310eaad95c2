-- Laws of the cursor: after each coefficient it stands where all bits read end, and what is read in a row is what `unpack` has
-- from there on. Assumes nothing.
use mathlib.Core.Path.{◌≡◌, refl, sym, ap, ap₂, ◌∙◌}
use mathlib.Core.List.{List, [], ◌∷◌, ◌++◌, append-nil}
use Prim.Native.Nat.{ℕ, zero, suc, ◌+◌, ◌-◌, ◌*◌, ◌/◌, ◌%◌, ◌^◌, ◌≤◌, ◌<◌}
use native.Mathlib.Nat.{mul-le-mul_left, mul-zero, mul-suc, mul-add, pow-zero, div-one, mod-eq_of_lt, lt_of_lt_of_le}
use native.Mathlib.Numerals.{add-one}
use native.Mathlib.Omega.{arith}
use lib.Bits.{bit_and, and_mask}
use lib.ListN.{length, take, drop, set, length-append, length-take, length-drop, drop_of_length-le}
use lib.Seq.{take_at, set_split, drop-drop}
use lib.Pow.{pow_mono, shr-shr, shr_lt}
use Rattle.keccak.specs.Lists.{value, digits, patched}
use Rattle.keccak.proofs.Parts.{length_digits, patched-rest}
use Rattle.bits.specs.Bits.{bytes_for, pack, unpack, Below}
use Rattle.bits.proofs.Digits.{digits-add, digits_below, value_below, value-drop, value_of_digits}
use Rattle.bits.proofs.Filling.{front_more}
use Rattle.bits.proofs.Words.{digits_from}
use Rattle.packing.specs.declared.reader.Cursor.{Cursor}
use Rattle.packing.specs.declared.reader.Coefficient.{Coefficient}
use Rattle.packing.specs.Reading.{cursor_at, bit_of, coefficient_at, unpack_from, in_turn, cursor_after, Held, Read, InTurn}
use Rattle.packing.specs.Turns.{OneWord, TwoWords, HoldBefore}

-- ---- where a cursor stands

-- A cursor is that of its bit.
cursor_is : (c : Cursor) {b : ℕ} → c.bit < 8 → bit_of c ≡ b → c ≡ cursor_at b
unfolding cursor_at
cursor_is c {b} few e =
    let byte : c.byte ≡ b / 8 = omega arith in
    let bit : c.bit ≡ b % 8 = omega arith in
    ap₂ (λ (x y : ℕ). record { byte = x; bit = y }) byte bit

-- What the definition says, part by part.
pub cursor_parts : (b : ℕ) {c : Cursor} → c ≡ cursor_at b → (c.byte ≡ b / 8) × (c.bit ≡ b % 8)
unfolding cursor_at
cursor_parts b e = (ap (λ (c : Cursor). c.byte) e, ap (λ (c : Cursor). c.bit) e)

bit_of_lem : (b : ℕ) → bit_of (cursor_at b) ≡ b
unfolding cursor_at
bit_of_lem b = omega arith

bit_within : (b : ℕ) → (cursor_at b).bit < 8
unfolding cursor_at
bit_within b = omega arith

-- The sum of bit and width, as the code takes it apart, gives the cursor that many bits further on.
pub moved_on : (c : Cursor) (bits : ℕ) → c.bit < 8
    → record { byte = c.byte + (c.bit + bits) / 8; bit = bit_and (c.bit + bits) 7 } ≡ cursor_at (bit_of c + bits)
moved_on c bits few =
    let low : bit_and (c.bit + bits) 7 ≡ (c.bit + bits) % 8 = and_mask (c.bit + bits) 3 in
    ap (λ (y : ℕ). record { byte = c.byte + (c.bit + bits) / 8; bit = y }) low
    ∙ cursor_is (record { byte = c.byte + (c.bit + bits) / 8; bit = (c.bit + bits) % 8 }) (omega arith) (omega arith)

-- Eight coefficients fill w bytes.
eight_on : (c : Cursor) (w : ℕ) → c.bit < 8 → record { byte = c.byte + w; bit = c.bit } ≡ cursor_at (bit_of c + w * 8)
eight_on c w few = cursor_is (record { byte = c.byte + w; bit = c.bit }) few (omega arith)

-- ---- in a row

-- 02's sentence: after every coefficient, of any width, the byte's place and the bit are the quotient and the remainder, by 8,
-- of the bit begun at and of all bits read.
pub after_each : (w i : ℕ) (bs : List ℕ) (b : ℕ) → cursor_after w i bs (cursor_at b) ≡ cursor_at (b + w * i)
unfolding cursor_after coefficient_at
after_each w zero bs b = ap cursor_at (omega (arith, mul-zero w))
after_each w (suc i) bs b =
    ap (λ (x : ℕ). cursor_after w i bs (cursor_at (x + w))) (bit_of_lem b) ∙ after_each w i bs (b + w)
    ∙ ap cursor_at (omega (arith, mul-suc w i))

-- The coefficients that are read in a row are those of the string from the cursor's bit on.
pub in_turn_is : (w n : ℕ) (bs : List ℕ) (b : ℕ) → in_turn w n bs (cursor_at b) ≡ unpack_from b w n bs
unfolding in_turn coefficient_at unpack_from digits
in_turn_is w zero bs b = refl
in_turn_is w (suc n) bs b =
    let v = value 8 bs in
    ap₂ (λ (x : ℕ) (l : List ℕ). x ∷ l)
    (ap (λ (x : ℕ). v / 2 ^ x % 2 ^ w) (bit_of_lem b))
    (ap (λ (x : ℕ). in_turn w n bs (cursor_at (x + w))) (bit_of_lem b) ∙ in_turn_is w n bs (b + w)
    ∙ ap (digits w n) (sym (shr-shr v b w)))

pub length_in_turn : (w n : ℕ) (bs : List ℕ) (c : Cursor) → length (in_turn w n bs c) ≡ n
unfolding in_turn
length_in_turn w zero bs c = refl
length_in_turn w (suc n) bs c = ap suc (length_in_turn w n bs (coefficient_at w bs c).next)

-- What is read at once is what is read in a row.
pub read_in_turn : {w n : ℕ} {bs : List ℕ} {c next : Cursor} {cs : List ℕ} → c.bit < 8 → Read w n bs c next cs → InTurn w n bs c next cs
read_in_turn {w} {n} {bs} {c} few r =
    let stands : c ≡ cursor_at (bit_of c) = cursor_is c few refl in
    record {
      coefficients = r.coefficients ∙ sym (ap (in_turn w n bs) stands ∙ in_turn_is w n bs (bit_of c));
      place = r.place ∙ sym (ap (cursor_after w n bs) stands ∙ after_each w n bs (bit_of c));
    }

pub in_turn_read : {w n : ℕ} {bs : List ℕ} {c next : Cursor} {cs : List ℕ} → c.bit < 8 → InTurn w n bs c next cs → Read w n bs c next cs
in_turn_read {w} {n} {bs} {c} few r =
    let stands : c ≡ cursor_at (bit_of c) = cursor_is c few refl in
    record {
      coefficients = r.coefficients ∙ ap (in_turn w n bs) stands ∙ in_turn_is w n bs (bit_of c);
      place = r.place ∙ ap (cursor_after w n bs) stands ∙ after_each w n bs (bit_of c);
    }

-- ---- what stands from a bit on

length-unpack-from : (b w n : ℕ) (bs : List ℕ) → length (unpack_from b w n bs) ≡ n
unfolding unpack_from
length-unpack-from b w n bs = length_digits w n (value 8 bs / 2 ^ b)

-- From bit 0 on it is what `unpack` has.
pub unpack-from-start : (w n : ℕ) (bs : List ℕ) → unpack_from 0 w n bs ≡ unpack w n bs
unfolding unpack_from unpack
unpack-from-start w n bs = ap (digits w n) (simp (pow-zero, div-one))

-- From any bit on it is what `unpack` has of the string without the bits before it.
pub unpack-from-rest : (b w n : ℕ) (bs : List ℕ) → Below 256 bs → b ≤ 8 * length bs
    → unpack_from b w n bs ≡ unpack w n (pack 1 (drop b (unpack 1 (8 * length bs) bs)))
unfolding unpack_from unpack pack
unpack-from-rest b w n bs h inside =
    let all = 8 * length bs in
    let v = value 8 bs in
    let bits = digits 1 all v in
    let one : (k : ℕ) → 1 * k ≡ k = λ k. omega arith in
    let small : v < 2 ^ all = value_below 8 bs h in
    let whole : value 1 bits ≡ v = value_of_digits 1 all v ∙ ap (λ (k : ℕ). v % 2 ^ k) (one all) ∙ mod-eq_of_lt small in
    let rest : value 1 (drop b bits) ≡ v / 2 ^ b =
    value-drop 1 bits b (digits_below 1 all v) ∙ ap₂ (λ (x k : ℕ). x / 2 ^ k) whole (one b)
    in
    let m = bytes_for (1 * length (drop b bits)) in
    let room : all - b ≤ 8 * m = simp (length-drop, length_digits) (omega arith) in
    let parts : all ≡ (all - b) + b = omega arith in
    let low : v / 2 ^ b < 2 ^ (8 * m) = lt_of_lt_of_le (shr_lt (all - b) b (rw (← parts) small)) (pow_mono room) in
    sym (ap (digits w n) (value_of_digits 8 m (value 1 (drop b bits)) ∙ ap (λ (x : ℕ). x % 2 ^ (8 * m)) rest ∙ mod-eq_of_lt low))

-- Coefficients, and those after them.
unpack-from-add : (b w m n : ℕ) (bs : List ℕ) → unpack_from b w (m + n) bs ≡ unpack_from b w m bs ++ unpack_from (b + w * m) w n bs
unfolding unpack_from
unpack-from-add b w m n bs =
    let v = value 8 bs in
    digits-add w m n (v / 2 ^ b) ∙ ap (λ (x : ℕ). digits w m (v / 2 ^ b) ++ digits w n x) (shr-shr v b (w * m))

-- Reading goes on where it stopped.
read_more : {w m n : ℕ} {bs : List ℕ} {c d e : Cursor} {cs ds : List ℕ} → Read w m bs c d cs → Read w n bs d e ds
    → Read w (m + n) bs c e (cs ++ ds)
read_more {w} {m} {n} {bs} {c} {d} r s =
    let b = bit_of c in
    let there : bit_of d ≡ b + w * m = ap bit_of r.place ∙ bit_of_lem (b + w * m) in
    record {
      coefficients = ap₂ ◌++◌ r.coefficients (s.coefficients ∙ ap (λ (x : ℕ). unpack_from x w n bs) there) ∙ sym (unpack-from-add b w m n bs);
      place = s.place ∙ ap (λ (x : ℕ). cursor_at (x + w * n)) there ∙ ap cursor_at (omega (arith, mul-add w m n));
    }

-- ---- four coefficients from a word

-- The four digits of a word, shifted by the cursor's bit, are four coefficients in a row.
pub word_in_turn : {w : ℕ} {bs : List ℕ} {c next : Cursor} {cs : List ℕ} → Below 256 bs → OneWord w c (length bs)
    → cs ≡ digits w 4 (value 8 (drop c.byte bs) % 2 ^ 64 / 2 ^ c.bit) → next ≡ cursor_at (bit_of c + 4 * w)
    → InTurn w 4 bs c next cs
unfolding unpack_from
word_in_turn {w} {bs} {c} bytes one e place =
    let room : c.bit + w * 4 ≤ 64 = omega (arith, one.short) in
    read_in_turn one.within
    (record {
      coefficients = e ∙ digits_from 64 w 4 c.byte c.bit bs bytes room;
      place = place ∙ ap cursor_at (omega arith);
    })

-- ---- a loop that reads

-- After n coefficients, read from c into a list that may be longer: the cursor after them, and the rest of the list as it was.
pub record Begun (w n : ℕ) (bs : List ℕ) (c next : Cursor) (entry exit : List ℕ) : Type 0 where
  pub fits : n ≤ length entry
  pub coefficients : exit ≡ unpack_from (bit_of c) w n bs ++ drop n entry
  pub place : next ≡ cursor_at (bit_of c + w * n)

-- What a loop carries: what was asked at its start, and what was read since.
pub record Reading (w : ℕ) (bs : List ℕ) (c₀ : Cursor) (dst₀ : List ℕ) (i : ℕ) (c : Cursor) (dst : List ℕ) : Type 0 where
  pub held : Held w (length dst₀) c₀ (length bs)
  pub begun : Begun w i bs c₀ c dst₀ dst
  pub long : length dst ≡ length dst₀

pub reading_none : {w : ℕ} {bs : List ℕ} {c : Cursor} {dst : List ℕ} → Held w (length dst) c (length bs) → Reading w bs c dst 0 c dst
unfolding unpack_from digits
reading_none {w} {bs} {c} {dst} h = record {
  held = h;
  begun = record { fits = omega arith; coefficients = refl; place = cursor_is c h.within (omega (arith, mul-zero w)) };
  long = refl;
}

module _ {w : ℕ} {bs : List ℕ} {c₀ : Cursor} {dst₀ : List ℕ} {i : ℕ} {c : Cursor} {dst : List ℕ} (h : Reading w bs c₀ dst₀ i c dst) where
  -- Where the loop stands.
  reading_at : bit_of c ≡ bit_of c₀ + w * i
  reading_at = ap bit_of h.begun.place ∙ bit_of_lem (bit_of c₀ + w * i)

  reading_within : c.bit < 8
  reading_within = rw h.begun.place (bit_within (bit_of c₀ + w * i))

  -- The string has the rest.
  pub reading_held : {k : ℕ} → i + k ≤ length dst₀ → Held w k c (length bs)
  reading_held {k} room =
      let all : w * (i + k) ≤ w * length dst₀ = mul-le-mul_left w room in
      record {
        narrow = h.held.narrow;
        within = reading_within;
        inside = omega (arith, reading_at, mul-add w i k, h.held.inside);
      }

  -- k coefficients more.
  pub reading_more : {k : ℕ} {next : Cursor} {cs : List ℕ} → i + k ≤ length dst₀ → Read w k bs c next cs
      → Reading w bs c₀ dst₀ (i + k) next (patched i (i + k - i) cs dst)
  reading_more {k} {next} {cs} room r =
      let front = unpack_from (bit_of c₀) w i bs in
      let all = read_more (record { coefficients = refl; place = h.begun.place }) r in
      let written : patched i (i + k - i) cs dst ≡ unpack_from (bit_of c₀) w (i + k) bs ++ drop (i + k) dst₀ =
      front_more i k front cs dst₀ (length-unpack-from (bit_of c₀) w i bs) h.begun.coefficients
      ∙ ap (λ (l : List ℕ). l ++ drop (i + k) dst₀) all.coefficients
      in
      record {
        held = h.held;
        begun = record { fits = room; coefficients = written; place = all.place };
        long = ap length written ∙ simp (length-append, length-unpack-from, length-drop) (omega arith);
      }

  -- All of them.
  pub reading_all : length dst₀ ≤ i → Read w (length dst₀) bs c₀ c dst
  reading_all last =
      let same : i ≡ length dst₀ = omega (arith, h.begun.fits) in
      record {
        coefficients = h.begun.coefficients ∙ ap (λ (l : List ℕ). unpack_from (bit_of c₀) w i bs ++ l) (drop_of_length-le dst₀ {i = i} last)
            ∙ append-nil (unpack_from (bit_of c₀) w i bs) ∙ ap (λ (k : ℕ). unpack_from (bit_of c₀) w k bs) same;
        place = h.begun.place ∙ ap (λ (k : ℕ). cursor_at (bit_of c₀ + w * k)) same;
      }

-- One coefficient is a list of one.
read_one : {w : ℕ} {bs : List ℕ} {c : Cursor} {r : Coefficient} → r ≡ coefficient_at w bs c → Read w 1 bs c r.next (r.value ∷ [])
unfolding coefficient_at unpack_from digits
read_one {w} {bs} {c} e = record {
  coefficients = ap (λ (x : Coefficient). x.value ∷ []) e;
  place = ap (λ (x : Coefficient). x.next) e ∙ ap cursor_at (omega arith);
}

-- A loop that writes one coefficient a turn.
pub reading_one : {w : ℕ} {bs : List ℕ} {c₀ : Cursor} {dst₀ : List ℕ} {i : ℕ} {c : Cursor} {dst : List ℕ} {r : Coefficient}
    → Reading w bs c₀ dst₀ i c dst → i < length dst₀ → r ≡ coefficient_at w bs c → Reading w bs c₀ dst₀ (i + 1) r.next (set dst i r.value)
reading_one {w} {bs} {c₀} {dst₀} {i} {c} {dst} {r} h less e =
    let one : i + 1 - i ≡ 1 = omega arith in
    let long = h.long in
    let written : set dst i r.value ≡ patched i (i + 1 - i) (r.value ∷ []) dst =
    set_split dst i r.value (omega arith)
    ∙ ap (λ (l : List ℕ). take i dst ++ (r.value ∷ l)) (sym (ap (λ (k : ℕ). drop k (drop i dst)) one ∙ drop-drop 1 i dst ∙ rw add-one))
    in
    rw written (reading_more h (omega arith) (read_one e))

-- What was begun, and the rest of the list.
module _ {w : ℕ} {bs : List ℕ} {c₀ : Cursor} {dst₀ : List ℕ} {i : ℕ} {c : Cursor} {dst : List ℕ} (h : Held w (length dst₀) c₀ (length bs))
    (b : Begun w i bs c₀ c dst₀ dst) where
  begun_reading : Reading w bs c₀ dst₀ i c dst
  begun_reading = record {
    held = h;
    begun = b;
    long = ap length b.coefficients ∙ simp (length-append, length-unpack-from, length-drop) (omega (arith, b.fits));
  }

  begun_rest : length (take (length dst - i) (drop i dst)) ≡ length dst₀ - i
  begun_rest = let long = begun_reading.long in simp (length-take, length-drop) (omega arith)

  pub begun_held : Held w (length (take (length dst - i) (drop i dst))) c (length bs)
  begun_held = rw begun_rest (reading_held begun_reading (omega (arith, b.fits)))

  pub begun_all : {next : Cursor} {ds : List ℕ} → Read w (length (take (length dst - i) (drop i dst))) bs c next ds
      → Read w (length dst₀) bs c₀ next (patched i (length dst - i) ds dst)
  begun_all {next} {ds} r =
      let front = unpack_from (bit_of c₀) w i bs in
      let whole : i + (length dst₀ - i) ≡ length dst₀ = omega (arith, b.fits) in
      let written : patched i (length dst - i) ds dst ≡ front ++ ds =
      patched-rest i ds dst ∙ ap (λ (l : List ℕ). l ++ ds)
      (ap (take i) b.coefficients ∙ take_at front (drop i dst₀) i (length-unpack-from (bit_of c₀) w i bs))
      in
      rw (written, ← whole) (read_more (record { coefficients = refl; place = b.place }) (rw begun_rest at r))

-- ---- eight coefficients a turn

-- Eight coefficients at a cursor that has this bit, before `end`, lie in two words.
holds_here : {w m end : ℕ} (c : Cursor) {bit : ℕ} → HoldBefore w bit m end → c.bit ≡ bit → c.byte < end → TwoWords w c m
holds_here {w} {m} c {bit} h e before = rw (← e) at (h c.byte before)

-- Where the second four stand if the first stand in byte 0.
pub second_small : (w bit : ℕ) {second : Cursor} → w ≤ 16 → bit < 8 → second ≡ cursor_at (8 * 0 + bit + 4 * w)
    → (second.byte ≤ 8) × (second.bit < 8)
second_small w bit narrow few e =
    let parts = cursor_parts (8 * 0 + bit + 4 * w) e in
    (omega (arith, parts.0), omega (arith, parts.1))

-- As far as the code looks: what the second four at byte 0 ask, they ask at every byte.
pub hold_before : (w bit m : ℕ) {second : Cursor} → w ≤ 16 → bit < 8 → second ≡ cursor_at (8 * 0 + bit + 4 * w) → bit + 4 * w ≤ 64
    → second.bit + 4 * w ≤ 64 → HoldBefore w bit m (m - (second.byte + 7))
unfolding cursor_at
hold_before w bit m narrow few e short next k before =
    let parts = cursor_parts (8 * 0 + bit + 4 * w) e in
    record {
      first = record { narrow = narrow; within = few; short = short; inside = omega arith };
      second = record { narrow = narrow; within = omega arith; short = omega (arith, parts.1); inside = omega (arith, parts.0) };
    }

-- Four coefficients in a row, and four more at the cursor after them, are eight.
pub eight_in_turn : {w : ℕ} {bs : List ℕ} {c second third : Cursor} {cs ds : List ℕ} → c.bit < 8 → second.bit < 8
    → InTurn w 4 bs c second cs → InTurn w 4 bs second third ds → InTurn w 8 bs c (record { byte = c.byte + w; bit = c.bit }) (cs ++ ds)
eight_in_turn {w} {bs} {c} few few-2 r s =
    read_in_turn few
    (record { coefficients = (read_more (in_turn_read few r) (in_turn_read few-2 s)).coefficients; place = eight_on c w few })

-- The four after them lie in a word where two words hold all eight.
pub second_word : {w m : ℕ} {bs : List ℕ} {c second : Cursor} {cs : List ℕ} → TwoWords w c m → InTurn w 4 bs c second cs → OneWord w second m
second_word {w} {c = c} t r =
    let there = (in_turn_read t.first.within r).place in
    let same : bit_of c + w * 4 ≡ bit_of c + 4 * w = omega arith in
    rw (there ∙ ap cursor_at same) t.second

-- The bit is the same after them.
same_bit : (w : ℕ) (c : Cursor) {next : Cursor} → c.bit < 8 → next ≡ cursor_at (bit_of c + w * 8) → next.bit ≡ c.bit
same_bit w c few e = ap (λ (x : Cursor). x.bit) (e ∙ sym (eight_on c w few))

-- What the loop of eights carries besides: the bit does not change, so that one look at the string's end serves all turns.
pub record Eights (w : ℕ) (bs : List ℕ) (c₀ : Cursor) (dst₀ : List ℕ) (end i : ℕ) (c : Cursor) (dst : List ℕ) : Type 0 where
  pub reading : Reading w bs c₀ dst₀ i c dst
  pub hold : HoldBefore w c₀.bit (length bs) end
  pub same : c.bit ≡ c₀.bit

module _ {w : ℕ} {bs : List ℕ} {c₀ : Cursor} {dst₀ : List ℕ} {end i : ℕ} {c : Cursor} {dst : List ℕ} (h : Eights w bs c₀ dst₀ end i c dst) where
  pub eights_hold : c.byte < end → TwoWords w c (length bs)
  eights_hold before = holds_here c h.hold h.same before

  -- Eight coefficients more.
  pub eights_more : {next : Cursor} {cs : List ℕ} → i + 8 ≤ length dst₀ → InTurn w 8 bs c next cs
      → Eights w bs c₀ dst₀ end (i + 8) next (patched i (i + 8 - i) cs dst)
  eights_more room r =
      let few = reading_within h.reading in
      let all = in_turn_read few r in
      record { reading = reading_more h.reading room all; hold = h.hold; same = same_bit w c few all.place ∙ h.same }

-- ---- from the first bit on

pub start_held : {w n m : ℕ} → w ≤ 16 → w * n ≤ 8 * m → Held w n (cursor_at 0) m
start_held {w} {n} narrow room = record { narrow = narrow; within = bit_within 0; inside = omega (arith, bit_of_lem 0) }

pub start_read : {w n : ℕ} {bs : List ℕ} {c next : Cursor} {cs : List ℕ} → c ≡ cursor_at 0 → Read w n bs c next cs → cs ≡ unpack w n bs
start_read {w} {n} {bs} e r =
    r.coefficients ∙ ap (λ (b : ℕ). unpack_from b w n bs) (ap bit_of e ∙ bit_of_lem 0) ∙ unpack-from-start w n bs

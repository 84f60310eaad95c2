-- What holds of a string while `packing::pack` fills it. Assumes nothing.
use mathlib.Core.Path.{◌≡◌, refl, sym, ap, ap₂, ◌∙◌}
use mathlib.Core.List.{List, [], ◌∷◌, ◌++◌}
use Prim.Native.Nat.{ℕ, suc, ◌+◌, ◌-◌, ◌*◌, ◌/◌, ◌%◌, ◌^◌, ◌≤◌, ◌<◌, min}
use native.Mathlib.Nat.{
  lt_of_lt_of_le,
  mul-le-mul_left,
  mul-le-mul_right,
  mul-add,
  mul-suc,
  mul-zero,
  mul_assoc,
  mod-lt,
  add-mul-div_left,
  add-mul-mod_self_left,
}
use native.Mathlib.Numerals.{add-one}
use native.Mathlib.Omega.{arith}
use lib.ListN.{length, get_or, take, drop, length-append, take-append-drop, length-take, length-drop, get_or-map}
use lib.Pow.{pow-add, pow_pos, pow_mono, shl_exact, shr-shr, shr_lt}
use lib.Seq.{take-suc, take-take, take-add, take-append-le, take-append-add, take_all, drop-drop}
use Rattle.keccak.specs.Lists.{value, digits}
use Rattle.keccak.proofs.Parts.{length_digits}
use Rattle.bits.proofs.Digits.{digits-add, digits_low, take-digits, value-append, value_below, low_bits_below, low_bits-append, length-low_bits, pack-append}
use Rattle.bits.specs.Bits.{bytes_for, pack, low_bits}

-- The place of coefficient i of n lies inside a string that holds w·n bits.
pub place_inside : (w i n k s m : ℕ) → i ≤ n → w * n ≤ 8 * m → 8 * k + s ≡ w * i → k ≤ m
place_inside w i n k s m h l e = omega (arith, mul-le-mul_left w h)

-- Bits above pending ones.
pub join_fits : (w count : ℕ) {p r : ℕ} → p < 2 ^ count → r < 2 ^ w → p + 2 ^ count * r < 2 ^ (count + w)
join_fits w count {p} {r} hp hr =
    rw (pow-add 2 count w) (omega (arith, mul-le-mul_left (2 ^ count) hr, mul-suc (2 ^ count) r))

-- The number of the first i coefficients.
abbrev pub up_to : ℕ → List ℕ → ℕ → ℕ
up_to w cs i = value w (take i (low_bits w cs))

-- After i coefficients of w bits: k whole bytes are written and `count` bits are pending, which stand in the next byte too.
pub record Packed (w : ℕ) (cs : List ℕ) (i k count pending : ℕ) (dst : List ℕ) : Type 0 where
  pub turns : i ≤ length cs
  pub few : count < 8
  pub place : 8 * k + count ≡ w * i
  pub rest : pending ≡ up_to w cs i / 2 ^ (8 * k)
  pub small : pending < 2 ^ count
  pub long : length dst ≡ bytes_for (w * length cs)
  pub written : take (bytes_for (w * i)) dst ≡ digits 8 (bytes_for (w * i)) (up_to w cs i)

pub packed_none : (w : ℕ) (cs dst : List ℕ) → length dst ≡ bytes_for (w * length cs) → Packed w cs 0 0 0 0 dst
unfolding value digits
packed_none w cs dst l = record {
  turns = omega arith;
  few = omega arith;
  place = omega (arith, mul-zero w);
  rest = refl;
  small = pow_pos 0;
  long = l;
  written = rw mul-zero;
}

pub packed_room : (w : ℕ) (cs : List ℕ) (i k count pending : ℕ) (dst : List ℕ) → Packed w cs i k count pending dst → k ≤ length dst
packed_room w cs i k count pending dst p =
    place_inside w i (length cs) k count (length dst) p.turns (omega (arith, p.long)) p.place

pub packed_all : (w : ℕ) (cs : List ℕ) (i k count pending : ℕ) (dst : List ℕ) → length cs ≤ i → Packed w cs i k count pending dst
    → dst ≡ pack w (low_bits w cs)
unfolding pack low_bits
packed_all w cs i k count pending dst h p =
    let all : i ≡ length cs = omega (arith, p.turns) in
    let same : length (low_bits w cs) ≡ length cs = length-low_bits w cs in
    let whole : take i (low_bits w cs) ≡ low_bits w cs = take_all i (low_bits w cs) (omega arith) in
    let m = bytes_for (w * length cs) in
    let end : bytes_for (w * i) ≡ m = ap (λ (x : ℕ). bytes_for (w * x)) all in
    sym (take_all m dst (omega (arith, p.long))) ∙ ap (λ (x : ℕ). take x dst) (sym end) ∙ p.written
    ∙ ap₂ (λ (x : ℕ) (l : List ℕ). digits 8 x (value w l)) (end ∙ ap (λ (x : ℕ). bytes_for (w * x)) (sym same)) whole

-- One coefficient more goes above the number.
up_to_more : (w : ℕ) (cs : List ℕ) (i : ℕ) → i < length cs → up_to w cs (suc i) ≡ up_to w cs i + 2 ^ (w * i) * (get_or cs i 0 % 2 ^ w)
unfolding value low_bits
up_to_more w cs i h =
    let ls = low_bits w cs in
    let same : length ls ≡ length cs = length-low_bits w cs in
    let inside : i < length ls = omega arith in
    let front : length (take i ls) ≡ i = simp (length-take) (omega arith) in
    let entry : get_or ls i (0 % 2 ^ w) ≡ get_or cs i 0 % 2 ^ w = get_or-map (λ (c : ℕ). c % 2 ^ w) cs i 0 in
    ap (value w) (take-suc ls i (0 % 2 ^ w) inside)
    ∙ value-append w (take i ls) (get_or ls i (0 % 2 ^ w) ∷ [])
    ∙ rw (front, entry) (simp mul-zero (omega arith))

-- The coefficient's bits go above the pending ones, and the bytes from k on are written.
pub packed_more : (w : ℕ) (cs : List ℕ) (i k count pending bits : ℕ) (dst ys : List ℕ) → w ≤ 16 → i < length cs
    → Packed w cs i k count pending dst → bits ≡ pending + 2 ^ count * (get_or cs i 0 % 2 ^ w) → length ys ≡ length dst - k
    → take 4 ys ≡ digits 8 (min 4 (length dst - k)) bits
    → Packed w cs (i + 1) (k + (count + w) / 8) ((count + w) % 8) (bits / 2 ^ (8 * ((count + w) / 8))) (take k dst ++ ys)
packed_more w cs i k count pending bits dst ys narrow h p e l y =
    let whole = (count + w) / 8 in
    let c = get_or cs i 0 % 2 ^ w in
    let u = up_to w cs i in
    let v = up_to w cs (i + 1) in
    let few = p.few in
    let place = p.place in
    let long = p.long in
    let next : w * (i + 1) ≡ w * i + w = omega arith in
    let ahead : w * (i + 1) ≤ w * length cs = mul-le-mul_left w (omega arith) in
    let power : 2 ^ (w * i) ≡ 2 ^ (8 * k) * 2 ^ count = ap (λ (x : ℕ). 2 ^ x) (sym place) ∙ pow-add 2 (8 * k) count in
    let more : v ≡ u + 2 ^ (8 * k) * (2 ^ count * c) =
    rw add-one (up_to_more w cs i h ∙ ap (λ (x : ℕ). u + x * c) power ∙ ap (λ (x : ℕ). u + x) (mul_assoc (2 ^ (8 * k)) (2 ^ count) c))
    in
    let above : bits ≡ v / 2 ^ (8 * k) =
    e ∙ ap (λ (x : ℕ). x + 2 ^ count * c) p.rest ∙ sym (ap (λ (x : ℕ). x / 2 ^ (8 * k)) more ∙ add-mul-div_left u (2 ^ count * c) (pow_pos (8 * k)))
    in
    let below : u % 2 ^ (8 * k) ≡ v % 2 ^ (8 * k) =
    sym (ap (λ (x : ℕ). x % 2 ^ (8 * k)) more ∙ add-mul-mod_self_left u (2 ^ (8 * k)) (2 ^ count * c))
    in
    let fits : bits < 2 ^ (count + w) = rw e (join_fits w count p.small (mod-lt (get_or cs i 0) (pow_pos w))) in
    let parts : count + w ≡ (count + w) % 8 + 8 * whole = omega arith in
    let m = bytes_for (w * i) in
    let j = bytes_for (w * (i + 1)) - k in
    let end : bytes_for (w * (i + 1)) ≡ k + j = omega arith in
    let front : length (take k dst) ≡ k = simp length-take (omega arith) in
    let first : take k dst ≡ digits 8 k v =
    sym (take-take k m dst (omega arith)) ∙ ap (take k) p.written ∙ take-digits 8 k m u (omega arith)
    ∙ sym (digits_low 8 k (8 * k) u (omega arith)) ∙ ap (digits 8 k) below ∙ digits_low 8 k (8 * k) v (omega arith)
    in
    let second : take j ys ≡ digits 8 j (v / 2 ^ (8 * k)) =
    sym (take-take j 4 ys (omega arith)) ∙ ap (take j) y ∙ take-digits 8 j (min 4 (length dst - k)) bits (omega arith)
    ∙ ap (digits 8 j) above
    in
    record {
      turns = omega arith;
      few = omega arith;
      place = omega arith;
      rest = ap (λ (x : ℕ). x / 2 ^ (8 * whole)) above ∙ shr-shr v (8 * k) (8 * whole) ∙ ap (λ (x : ℕ). v / 2 ^ x) (omega arith);
      small = shr_lt ((count + w) % 8) (8 * whole) (rw (← parts) fits);
      long = simp length-append (omega arith);
      written = ap (λ (x : ℕ). take x (take k dst ++ ys)) end ∙ ap (λ (x : ℕ). take (x + j) (take k dst ++ ys)) (sym front)
          ∙ take-append-add (take k dst) ys j ∙ ap₂ ◌++◌ first second ∙ sym (digits-add 8 k j v) ∙ ap (λ (x : ℕ). digits 8 x v) (sym end);
    }

-- ---- eight coefficients a turn

-- A number with at most 16 bits more below it.
pub below_fits : (w c high : ℕ) → w ≤ 16 → c % 2 ^ w + 2 ^ w * high < 65536 * (high + 1)
below_fits w c high h =
    let narrow : 2 ^ w ≤ 2 ^ 16 = pow_mono h in
    omega (arith, mul-le-mul_right high narrow, mod-lt c (pow_pos w))

-- The number of four coefficients, one by one.
pub four_value : (w : ℕ) (cs : List ℕ) → length cs ≡ 4
    → get_or cs 0 0 % 2 ^ w + 2 ^ w * (get_or cs 1 0 % 2 ^ w + 2 ^ w * (get_or cs 2 0 % 2 ^ w + 2 ^ w * (get_or cs 3 0 % 2 ^ w + 2 ^ w * 0)))
    ≡ value w (low_bits w cs)
unfolding value low_bits
four_value w [] l = omega arith
four_value w (a ∷ []) l = omega arith
four_value w (a ∷ b ∷ []) l = omega arith
four_value w (a ∷ b ∷ c ∷ []) l = omega arith
four_value w (a ∷ b ∷ c ∷ d ∷ []) l = refl
four_value w (a ∷ b ∷ c ∷ d ∷ e ∷ r) l = omega arith

-- It has 4·w bits.
pub four_below : (w : ℕ) (cs : List ℕ) → length cs ≡ 4 → value w (low_bits w cs) < 2 ^ (4 * w)
four_below w cs l =
    let e : w * length (low_bits w cs) ≡ 4 * w = ap (λ (n : ℕ). w * n) (length-low_bits w cs ∙ l) ∙ omega arith in
    rw e at (value_below w (low_bits w cs) (low_bits_below w cs))

-- What starts at bit 4·w starts at bit 4·(w % 2) of byte w / 2.
above_half : (w v : ℕ) → 2 ^ (4 * w) * v ≡ 2 ^ (8 * (w / 2)) * (2 ^ (4 * (w % 2)) * v)
above_half w v =
    let n = 8 * (w / 2) in
    let o = 4 * (w % 2) in
    let parts : 4 * w ≡ n + o = omega arith in
    ap (λ (x : ℕ). 2 ^ x * v) parts ∙ ap (λ (x : ℕ). x * v) (pow-add 2 n o) ∙ mul_assoc (2 ^ n) (2 ^ o) v

-- What the number of eight coefficients has past byte w / 2, as the code joins it: low and high are four coefficients each.
pub upper_is : (w low high : ℕ) → w ≤ 16 → high < 2 ^ (4 * w)
    → high * 2 ^ (4 * (w % 2)) % 2 ^ 64 + low / 2 ^ (4 * (w / 2)) / 2 ^ (4 * (w / 2)) ≡ (low + 2 ^ (4 * w) * high) / 2 ^ (8 * (w / 2))
upper_is w low high small k =
    let n = 8 * (w / 2) in
    let o = 4 * (w % 2) in
    let room : w / 2 + w % 2 ≤ 8 = omega arith in
    let twice : 4 * (w / 2) + 4 * (w / 2) ≡ n = omega arith in
    let swap : high * 2 ^ o + low / 2 ^ n ≡ low / 2 ^ n + 2 ^ o * high = omega arith in
    ap₂ ◌+◌ (shl_exact (4 * w) o 64 k (omega arith)) (shr-shr low (4 * (w / 2)) (4 * (w / 2)) ∙ ap (λ (x : ℕ). low / 2 ^ x) twice)
    ∙ swap ∙ sym (ap (λ (x : ℕ). (low + x) / 2 ^ n) (above_half w high) ∙ add-mul-div_left low (2 ^ o * high) (pow_pos n))

-- It fits into a word.
pub upper_fits : (w low high : ℕ) → w ≤ 16 → low < 2 ^ (4 * w) → high < 2 ^ (4 * w) → (low + 2 ^ (4 * w) * high) / 2 ^ (8 * (w / 2)) < 2 ^ 64
upper_fits w low high small h k =
    let n = 8 * (w / 2) in
    let room : w / 2 + w % 2 ≤ 8 = omega arith in
    let parts : 4 * w + 4 * w ≡ (8 * w - n) + n = omega arith in
    let fits : 8 * w - n ≤ 64 = omega arith in
    lt_of_lt_of_le (shr_lt (8 * w - n) n (rw (← parts) (join_fits (4 * w) (4 * w) h k))) (pow_mono fits)

-- Two words, the second over the first from byte w / 2 on, have the bytes of eight coefficients.
pub two_words_packed : (w : ℕ) (cs r s : List ℕ) → w ≤ 16 → length cs ≡ 8
    → take w (take (w / 2) (digits 8 8 (value w (low_bits w (take 4 cs))) ++ r)
    ++ (digits 8 8 ((value w (low_bits w (take 4 cs)) + 2 ^ (4 * w) * value w (low_bits w (drop 4 cs))) / 2 ^ (8 * (w / 2))) ++ s))
    ≡ pack w (low_bits w cs)
unfolding pack
two_words_packed w cs r s small l =
    let xs = low_bits w (take 4 cs) in
    let ys = low_bits w (drop 4 cs) in
    let low = value w xs in
    let high = value w ys in
    let n = w / 2 in
    let v = low + 2 ^ (4 * w) * high in
    let four : length xs ≡ 4 = length-low_bits w (take 4 cs) ∙ simp length-take (omega arith) in
    let whole : low_bits w cs ≡ xs ++ ys = ap (low_bits w) (sym (take-append-drop 4 cs)) ∙ low_bits-append w (take 4 cs) (drop 4 cs) in
    let place : w * length xs ≡ 4 * w = ap (λ (k : ℕ). w * k) four ∙ omega arith in
    let number : value w (low_bits w cs) ≡ v = ap (value w) whole ∙ value-append w xs ys ∙ ap (λ (k : ℕ). low + 2 ^ k * high) place in
    let count : bytes_for (w * length (low_bits w cs)) ≡ w = ap (λ (k : ℕ). bytes_for (w * k)) (length-low_bits w cs ∙ l) ∙ omega arith in
    let same : v % 2 ^ (8 * n) ≡ low % 2 ^ (8 * n) =
    ap (λ (x : ℕ). (low + x) % 2 ^ (8 * n)) (above_half w high) ∙ add-mul-mod_self_left low (2 ^ (8 * n)) (2 ^ (4 * (w % 2)) * high)
    in
    let first : take n (digits 8 8 low ++ r) ≡ digits 8 n v =
    take-append-le n (digits 8 8 low) r (simp length_digits (omega arith)) ∙ take-digits 8 n 8 low (omega arith)
    ∙ sym (digits_low 8 n (8 * n) low (omega arith)) ∙ ap (digits 8 n) (sym same) ∙ digits_low 8 n (8 * n) v (omega arith)
    in
    let u = v / 2 ^ (8 * n) in
    let second : take (w - n) (digits 8 8 u ++ s) ≡ digits 8 (w - n) u =
    take-append-le (w - n) (digits 8 8 u) s (simp length_digits (omega arith)) ∙ take-digits 8 (w - n) 8 u (omega arith)
    in
    let halves : length (digits 8 n v) + (w - n) ≡ w = rw length_digits (omega arith) in
    ap (λ (l : List ℕ). take w (l ++ (digits 8 8 u ++ s))) first
    ∙ ap (λ (k : ℕ). take k (digits 8 n v ++ (digits 8 8 u ++ s))) (sym halves)
    ∙ take-append-add (digits 8 n v) (digits 8 8 u ++ s) (w - n)
    ∙ ap (λ (l : List ℕ). digits 8 n v ++ l) second ∙ sym (digits-add 8 n (w - n) v)
    ∙ ap₂ (digits 8) (omega arith ∙ sym count) (sym number)

-- Coefficients that fill whole bytes, and those after them.
pub pack_split : (w i a n : ℕ) (cs : List ℕ) → w * i ≡ 8 * a → i ≤ length cs
    → pack w (low_bits w (take (i + n) cs)) ≡ pack w (low_bits w (take i cs)) ++ pack w (low_bits w (take n (drop i cs)))
pack_split w i a n cs e h =
    let xs = low_bits w (take i cs) in
    let long : length xs ≡ i = length-low_bits w (take i cs) ∙ simp length-take (omega arith) in
    let fill : w * length xs ≡ 8 * a = ap (λ (k : ℕ). w * k) long ∙ e in
    ap (λ (l : List ℕ). pack w (low_bits w l)) (take-add i n cs) ∙ ap (pack w) (low_bits-append w (take i cs) (take n (drop i cs)))
    ∙ pack-append w a xs (low_bits w (take n (drop i cs))) (low_bits_below w (take i cs)) fill

-- What the loop over eights carries: the first coefficients fill the first k bytes, and the others are to come.
pub record Eights (w : ℕ) (cs rest : List ℕ) (k : ℕ) (dst : List ℕ) : Type 0 where
  pub count : ℕ
  pub fits : count ≤ length cs
  pub others : rest ≡ drop count cs
  pub place : w * count ≡ 8 * k
  pub long : length dst ≡ bytes_for (w * length cs)
  pub written : take k dst ≡ pack w (low_bits w (take count cs))

pub eights_none : (w : ℕ) (cs dst : List ℕ) → length dst ≡ bytes_for (w * length cs) → Eights w cs cs 0 dst
unfolding pack low_bits value digits
eights_none w cs dst l = record {
  count = 0;
  fits = omega arith;
  others = refl;
  place = mul-zero w;
  long = l;
  written = simp mul-zero;
}

module _ {w : ℕ} {cs rest : List ℕ} {k : ℕ} {dst : List ℕ} (h : Eights w cs rest k dst) where
  -- The string has the bytes of the rest.
  eights_parts : 8 * k + w * length rest ≡ w * length cs
  eights_parts =
      let m = h.count in
      let long : length rest ≡ length cs - m = ap length h.others ∙ length-drop m cs in
      let parts : m + (length cs - m) ≡ length cs = omega (arith, h.fits) in
      omega (arith, h.place, ap (λ (x : ℕ). w * x) long, mul-add w m (length cs - m), ap (λ (x : ℕ). w * x) parts)

  pub eights_room : k ≤ length dst
  eights_room = omega (arith, eights_parts, h.long)

  pub eights_rest : length dst - k ≡ bytes_for (w * length rest)
  eights_rest = omega (arith, eights_parts, h.long)

  -- n coefficients more, and the bytes from k on.
  eights_join : (n : ℕ) → pack w (low_bits w (take (h.count + n) cs)) ≡ take k dst ++ pack w (low_bits w (take n rest))
  eights_join n =
      pack_split w h.count k n cs h.place h.fits
      ∙ ap₂ (λ (l r : List ℕ). l ++ pack w (low_bits w (take n r))) (sym h.written) (sym h.others)

  -- Eight coefficients more.
  pub eights_more : (ys : List ℕ) → 8 ≤ length rest → length ys ≡ length dst - k → take w ys ≡ pack w (low_bits w (take 8 rest))
      → Eights w cs (drop 8 rest) (k + w) (take k dst ++ ys)
  eights_more ys eight l e =
      let m = h.count in
      let room = eights_room in
      let long : length rest ≡ length cs - m = ap length h.others ∙ length-drop m cs in
      let front : length (take k dst) ≡ k = simp length-take (omega arith) in
      record {
        count = m + 8;
        fits = omega (arith, h.fits);
        others = ap (drop 8) h.others ∙ drop-drop 8 m cs;
        place = omega (arith, h.place, mul-add w m 8);
        long = simp (length-append, length-take) (omega (arith, h.long));
        written = ap (λ (x : ℕ). take (x + w) (take k dst ++ ys)) (sym front) ∙ take-append-add (take k dst) ys w
            ∙ ap (λ (l : List ℕ). take k dst ++ l) e ∙ sym (eights_join 8);
      }

  -- All of them.
  pub eights_all : {ys : List ℕ} → ys ≡ pack w (low_bits w rest) → take k dst ++ ys ≡ pack w (low_bits w cs)
  eights_all {ys} e =
      let m = h.count in
      let n = length rest in
      let long : n ≡ length cs - m = ap length h.others ∙ length-drop m cs in
      let whole : take (m + n) cs ≡ cs = take_all (m + n) cs (omega (arith, h.fits)) in
      ap (λ (l : List ℕ). take k dst ++ l) (e ∙ ap (λ (l : List ℕ). pack w (low_bits w l)) (sym (take_all n rest (omega arith))))
      ∙ sym (eights_join n) ∙ ap (λ (l : List ℕ). pack w (low_bits w l)) whole

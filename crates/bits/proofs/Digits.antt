-- Laws of numbers and their digits in base 2^w, and from them those of bit strings: packing and unpacking are inverse to each
-- other, and bit by bit they read as 01 says. Assumes nothing.
use mathlib.Core.Path.{◌≡◌, refl, sym, ap, ap₂, ◌∙◌}
use mathlib.Core.List.{List, [], ◌∷◌, ◌++◌, map-append}
use Prim.Native.Nat.{ℕ, zero, suc, ◌+◌, ◌-◌, ◌*◌, ◌/◌, ◌%◌, ◌^◌, ◌≤◌, ◌<◌, zero-le, suc-le-suc}
use native.Mathlib.Nat.{not-suc-le-zero, le_of_suc-le-suc, mul-zero, mul-suc, div-div-eq-div-mul, mod-lt, mod-eq_of_lt, lt_of_lt_of_le}
use native.Mathlib.Nat.{le_refl, div-one, mod-one, pow-zero, zero-div, zero-mod, mul-le-mul_left, zero-add, suc-add, mul-add, add-zero}
use native.Mathlib.Nat.{pow-suc, mul-mod_left, mul-div_cancel}
use native.Mathlib.Omega.{arith}
use lib.Count.{count_trailing_zeros}
use lib.ListN.{length, get_or, take, drop, length-append, length-map}
use lib.Seq.{take_at, drop_at}
use lib.Pow.{pow-add, pow_pos, pow_mono, high, low, mod-pow-add, mod-mod-pow, field, shr-shr}
use Rattle.keccak.specs.Lists.{tabulate, concat_map, value, digits}
use Rattle.keccak.proofs.Entries.{tabulate_at}
use Rattle.keccak.proofs.Parts.{length_digits}
use Rattle.bits.specs.Bits.{bytes_for, pack, unpack, low_bits, Below, bit}

-- ---- numbers and their digits

-- One digit further.
shift_more : (w i v : ℕ) → v / 2 ^ w / 2 ^ (w * i) ≡ v / 2 ^ (w * suc i)
shift_more w i v =
    let e : w + w * i ≡ w * suc i = omega (arith, mul-suc w i) in
    div-div-eq-div-mul v (2 ^ w) (2 ^ (w * i)) ∙ ap (λ (x : ℕ). v / x) (sym (pow-add 2 w (w * i)) ∙ ap (λ (x : ℕ). 2 ^ x) e)

-- The digits, place by place.
pub digits-tabulate : (w n v : ℕ) → digits w n v ≡ tabulate n (λ i. v / 2 ^ (w * i) % 2 ^ w)
unfolding digits tabulate
digits-tabulate w zero v = refl
digits-tabulate w (suc n) v =
    ap₂ (λ (x : ℕ) (l : List ℕ). x ∷ l)
    (simp (mul-zero, pow-zero, div-one))
    (digits-tabulate w n (v / 2 ^ w) ∙ simp (shift_more w))

pub digits_at : (w n v i : ℕ) → i < n → get_or (digits w n v) i 0 ≡ v / 2 ^ (w * i) % 2 ^ w
digits_at w n v i h = rw (digits-tabulate w n v) (tabulate_at n (λ i. v / 2 ^ (w * i) % 2 ^ w) i 0 h)

pub digits-add : (w m n v : ℕ) → digits w (m + n) v ≡ digits w m v ++ digits w n (v / 2 ^ (w * m))
unfolding digits
digits-add w zero n v = simp (zero-add, mul-zero, pow-zero, div-one)
digits-add w (suc m) n v =
    simp suc-add
    (ap (λ (l : List ℕ). v % 2 ^ w ∷ l)
    (digits-add w m n (v / 2 ^ w) ∙ ap (λ (x : ℕ). digits w m (v / 2 ^ w) ++ digits w n x) (shift_more w m v)))

-- The first digit, and the number above it.
pub first_digit : (w : ℕ) {d : ℕ} (v : ℕ) → d < 2 ^ w → (d + 2 ^ w * v) % 2 ^ w ≡ d
first_digit w {d} v h =
    let e : d + 2 ^ w * v ≡ v * 2 ^ w + d = omega arith in
    ap (λ (x : ℕ). x % 2 ^ w) e ∙ low v w h

pub later_digits : (w : ℕ) {d : ℕ} (v : ℕ) → d < 2 ^ w → (d + 2 ^ w * v) / 2 ^ w ≡ v
later_digits w {d} v h =
    let e : d + 2 ^ w * v ≡ v * 2 ^ w + d = omega arith in
    ap (λ (x : ℕ). x / 2 ^ w) e ∙ high v w h

pub value_below : (w : ℕ) (cs : List ℕ) → Below (2 ^ w) cs → value w cs < 2 ^ (w * length cs)
unfolding value
value_below w [] h = rw mul-zero (pow_pos 0)
value_below w (d ∷ ds) h =
    let below : value w ds < 2 ^ (w * length ds) = value_below w ds (λ i. h (suc i)) in
    let e : w * suc (length ds) ≡ w + w * length ds = omega (arith, mul-suc w (length ds)) in
    let room : 2 ^ w * suc (value w ds) ≤ 2 ^ w * 2 ^ (w * length ds) = mul-le-mul_left (2 ^ w) below in
    let first : d < 2 ^ w = h zero in
    rw e (rw (pow-add 2 w (w * length ds)) (omega (arith, mul-suc (2 ^ w) (value w ds))))

-- The digits of a number with these digits are these.
pub digits_of_value : (w : ℕ) (cs : List ℕ) → Below (2 ^ w) cs → digits w (length cs) (value w cs) ≡ cs
unfolding value digits
digits_of_value w [] h = refl
digits_of_value w (d ∷ ds) h =
    ap₂ (λ (x : ℕ) (l : List ℕ). x ∷ l) (first_digit w (value w ds) (h zero))
    (ap (digits w (length ds)) (later_digits w (value w ds) (h zero)) ∙ digits_of_value w ds (λ i. h (suc i)))

-- The number with the n low digits of v.
pub value_of_digits : (w n v : ℕ) → value w (digits w n v) ≡ v % 2 ^ (w * n)
unfolding value digits
value_of_digits w zero v = sym (rw mul-zero (mod-one v))
value_of_digits w (suc n) v =
    let e : w * suc n ≡ w * n + w = mul-suc w n in
    let ih : value w (digits w n (v / 2 ^ w)) ≡ v / 2 ^ w % 2 ^ (w * n) = value_of_digits w n (v / 2 ^ w) in
    let split : v % 2 ^ (w * n + w) ≡ (v / 2 ^ w % 2 ^ (w * n)) * 2 ^ w + v % 2 ^ w = mod-pow-add v (w * n) w in
    rw (ih, e, split) (omega arith)

-- Entry i of a number's digits, 0 past the end.
pub value_at : (w : ℕ) (cs : List ℕ) (i : ℕ) → Below (2 ^ w) cs → get_or cs i 0 ≡ value w cs / 2 ^ (w * i) % 2 ^ w
unfolding value
value_at w [] i h = sym (ap (λ (x : ℕ). x % 2 ^ w) (zero-div (2 ^ (w * i))) ∙ zero-mod (2 ^ w))
value_at w (d ∷ ds) zero h = sym (simp (mul-zero, pow-zero, div-one) (first_digit w (value w ds) (h zero)))
value_at w (d ∷ ds) (suc i) h =
    value_at w ds i (λ i. h (suc i))
    ∙ ap (λ (x : ℕ). x / 2 ^ (w * i) % 2 ^ w) (sym (later_digits w (value w ds) (h zero)))
    ∙ ap (λ (x : ℕ). x % 2 ^ w) (shift_more w i (d + 2 ^ w * value w ds))

-- The number above the first i digits.
pub value-drop : (w : ℕ) (cs : List ℕ) (i : ℕ) → Below (2 ^ w) cs → value w (drop i cs) ≡ value w cs / 2 ^ (w * i)
unfolding value
value-drop w [] zero h = sym (zero-div (2 ^ (w * 0)))
value-drop w [] (suc i) h = sym (zero-div (2 ^ (w * suc i)))
value-drop w (d ∷ ds) zero h = simp (mul-zero, pow-zero, div-one)
value-drop w (d ∷ ds) (suc i) h =
    value-drop w ds i (λ i. h (suc i))
    ∙ ap (λ (x : ℕ). x / 2 ^ (w * i)) (sym (later_digits w (value w ds) (h zero)))
    ∙ shift_more w i (d + 2 ^ w * value w ds)

pub value-take : (w : ℕ) (cs : List ℕ) (n : ℕ) → Below (2 ^ w) cs → value w (take n cs) ≡ value w cs % 2 ^ (w * n)
unfolding value
value-take w [] zero h = sym (zero-mod (2 ^ (w * 0)))
value-take w [] (suc n) h = sym (zero-mod (2 ^ (w * suc n)))
value-take w (d ∷ ds) zero h = sym (rw mul-zero (mod-one (d + 2 ^ w * value w ds)))
value-take w (d ∷ ds) (suc n) h =
    let v = d + 2 ^ w * value w ds in
    let e : w * suc n ≡ w * n + w = mul-suc w n in
    let ih : value w (take n ds) ≡ value w ds % 2 ^ (w * n) = value-take w ds n (λ i. h (suc i)) in
    let split : v % 2 ^ (w * n + w) ≡ (v / 2 ^ w % 2 ^ (w * n)) * 2 ^ w + v % 2 ^ w = mod-pow-add v (w * n) w in
    rw (e, split, ih, later_digits w (value w ds) (h zero), first_digit w (value w ds) (h zero)) (omega arith)

pub value-append : (w : ℕ) (xs ys : List ℕ) → value w (xs ++ ys) ≡ value w xs + 2 ^ (w * length xs) * value w ys
unfolding value
value-append w [] ys = simp (mul-zero, pow-zero) (omega arith)
value-append w (x ∷ xs) ys =
    let e : w * suc (length xs) ≡ w + w * length xs = omega (arith, mul-suc w (length xs)) in
    rw (value-append w xs ys, e, pow-add 2 w (w * length xs)) (omega arith)

-- The low digits are those of the number modulo a power past them.
pub digits_low : (w n m v : ℕ) → w * n ≤ m → digits w n (v % 2 ^ m) ≡ digits w n v
unfolding digits
digits_low w zero m v h = refl
digits_low w (suc n) m v h =
    let here : m ≡ (m - w) + w = omega (arith, mul-suc w n) in
    let later : w * n ≤ m - w = omega (arith, mul-suc w n) in
    ap₂ (λ (x : ℕ) (l : List ℕ). x ∷ l)
    (ap (λ (k : ℕ). v % 2 ^ k % 2 ^ w) here ∙ mod-mod-pow v (m - w) w)
    (ap (λ (k : ℕ). digits w n (v % 2 ^ k / 2 ^ w)) here ∙ ap (digits w n) (field v (m - w) w) ∙ digits_low w n (m - w) (v / 2 ^ w) later)

pub take-digits : (w m n v : ℕ) → m ≤ n → take m (digits w n v) ≡ digits w m v
take-digits w m n v h =
    let e : n ≡ m + (n - m) = omega arith in
    ap (λ (k : ℕ). take m (digits w k v)) e ∙ ap (take m) (digits-add w m (n - m) v)
    ∙ take_at (digits w m v) (digits w (n - m) (v / 2 ^ (w * m))) m (length_digits w m v)

-- A digit of two bytes.
pub pair_digit : (v i : ℕ) → v / 2 ^ (16 * i) % 2 ^ 16 ≡ v / 2 ^ (8 * (2 * i)) % 2 ^ 8 + 2 ^ 8 * (v / 2 ^ (8 * (2 * i + 1)) % 2 ^ 8)
pair_digit v i =
    let x = v / 2 ^ (16 * i) in
    let same : 16 * i ≡ 8 * (2 * i) = omega arith in
    let next : 16 * i + 8 ≡ 8 * (2 * i + 1) = omega arith in
    let above : x / 2 ^ 8 ≡ v / 2 ^ (8 * (2 * i + 1)) = shr-shr v (16 * i) 8 ∙ ap (λ (k : ℕ). v / 2 ^ k) next in
    let below : x ≡ v / 2 ^ (8 * (2 * i)) = ap (λ (k : ℕ). v / 2 ^ k) same in
    let swap : (x / 2 ^ 8 % 2 ^ 8) * 2 ^ 8 + x % 2 ^ 8 ≡ x % 2 ^ 8 + 2 ^ 8 * (x / 2 ^ 8 % 2 ^ 8) = omega arith in
    mod-pow-add x 8 8 ∙ swap ∙ ap₂ (λ (a b : ℕ). a % 2 ^ 8 + 2 ^ 8 * (b % 2 ^ 8)) below above

-- The first 32 bits of a string, byte by byte.
pub four_bytes : (bs : List ℕ) → Below 256 bs
    → value 8 bs % 2 ^ 32 ≡ get_or bs 0 0 + 2 ^ 8 * (get_or bs 1 0 + 2 ^ 8 * (get_or bs 2 0 + 2 ^ 8 * get_or bs 3 0))
unfolding value
four_bytes bs h = sym (value-take 8 bs 4 h) ∙ front bs
  where
    front : (bs : List ℕ) → value 8 (take 4 bs) ≡ get_or bs 0 0 + 2 ^ 8 * (get_or bs 1 0 + 2 ^ 8 * (get_or bs 2 0 + 2 ^ 8 * get_or bs 3 0))
    front [] = refl
    front (a ∷ []) = refl
    front (a ∷ b ∷ []) = refl
    front (a ∷ b ∷ c ∷ []) = refl
    front (a ∷ b ∷ c ∷ d ∷ r) = simp add-zero

-- ---- packing

-- Coefficients of w bits are below 2^w.
pub digits_below : (w n v : ℕ) → Below (2 ^ w) (digits w n v)
unfolding digits
digits_below w zero v i = pow_pos w
digits_below w (suc n) v zero = mod-lt v (pow_pos w)
digits_below w (suc n) v (suc i) = digits_below w n (v / 2 ^ w) i

pub unpack_below : (w n : ℕ) (bs : List ℕ) → Below (2 ^ w) (unpack w n bs)
unfolding unpack
unpack_below w n bs = digits_below w n (value 8 bs)

pub low_bits_below : (w : ℕ) (cs : List ℕ) → Below (2 ^ w) (low_bits w cs)
unfolding low_bits
low_bits_below w [] i = pow_pos w
low_bits_below w (c ∷ cs) zero = mod-lt c (pow_pos w)
low_bits_below w (c ∷ cs) (suc i) = low_bits_below w cs i

pub length-unpack : (w n : ℕ) (bs : List ℕ) → length (unpack w n bs) ≡ n
unfolding unpack
length-unpack w n bs = length_digits w n (value 8 bs)

-- Unpacking gives back what was packed.
pub unpack-pack : (w : ℕ) (cs : List ℕ) → Below (2 ^ w) cs → unpack w (length cs) (pack w cs) ≡ cs
unfolding pack unpack
unpack-pack w cs h =
    let m = bytes_for (w * length cs) in
    let room : w * length cs ≤ 8 * m = omega arith in
    let small : value w cs < 2 ^ (8 * m) = lt_of_lt_of_le (value_below w cs h) (pow_mono room) in
    ap (digits w (length cs)) (value_of_digits 8 m (value w cs) ∙ mod-eq_of_lt small) ∙ digits_of_value w cs h

-- Packing gives back the bytes that were unpacked, where the coefficients fill them.
pub pack-unpack : (w n : ℕ) (bs : List ℕ) → Below 256 bs → w * n ≡ 8 * length bs → pack w (unpack w n bs) ≡ bs
unfolding pack unpack
pack-unpack w n bs h e =
    let long : length (digits w n (value 8 bs)) ≡ n = length_digits w n (value 8 bs) in
    let whole : bytes_for (w * n) ≡ length bs = omega arith in
    let small : value 8 bs < 2 ^ (w * n) = rw e (value_below 8 bs h) in
    rw (long, whole, value_of_digits w n (value 8 bs), mod-eq_of_lt small) (digits_of_value 8 bs h)

-- Only the bytes that hold the coefficients are read.
pub unpack-take : (w n m : ℕ) (bs : List ℕ) → Below 256 bs → w * n ≤ 8 * m → unpack w n (take m bs) ≡ unpack w n bs
unfolding unpack
unpack-take w n m bs h k = ap (digits w n) (value-take 8 bs m h) ∙ digits_low w n (8 * m) (value 8 bs) k

-- The coefficients that follow m of them lie from a whole byte a on.
pub unpack-add : (w m n a : ℕ) (bs : List ℕ) → Below 256 bs → w * m ≡ 8 * a → unpack w (m + n) bs ≡ unpack w m bs ++ unpack w n (drop a bs)
unfolding unpack
unpack-add w m n a bs h e =
    digits-add w m n (value 8 bs)
    ∙ ap (λ (x : ℕ). digits w m (value 8 bs) ++ digits w n x) (ap (λ (k : ℕ). value 8 bs / 2 ^ k) e ∙ sym (value-drop 8 bs a h))

-- So n of them from place m on are unpacked from byte a on.
pub unpack-part : (w m n r a : ℕ) (bs : List ℕ) → Below 256 bs → w * m ≡ 8 * a
    → take n (drop m (unpack w (m + (n + r)) bs)) ≡ unpack w n (drop a bs)
unfolding unpack
unpack-part w m n r a bs h e =
    ap (λ (l : List ℕ). take n (drop m l)) (unpack-add w m (n + r) a bs h e)
    ∙ ap (take n) (drop_at (digits w m (value 8 bs)) (digits w (n + r) (value 8 (drop a bs))) m (length_digits w m (value 8 bs)))
    ∙ take-digits w n (n + r) (value 8 (drop a bs)) (omega arith)

-- The low bits of a list are those of its parts.
pub low_bits-append : (w : ℕ) (xs ys : List ℕ) → low_bits w (xs ++ ys) ≡ low_bits w xs ++ low_bits w ys
unfolding low_bits
low_bits-append w xs ys = map-append (λ c. c % 2 ^ w) xs ys

-- There are as many as there are coefficients.
pub length-low_bits : (w : ℕ) (cs : List ℕ) → length (low_bits w cs) ≡ length cs
unfolding low_bits
length-low_bits w cs = length-map cs (λ c. c % 2 ^ w)

-- The bytes of a list are those of its first part and those of its second, where the first fills whole bytes.
pub pack-append : (w a : ℕ) (xs ys : List ℕ) → Below (2 ^ w) xs → w * length xs ≡ 8 * a → pack w (xs ++ ys) ≡ pack w xs ++ pack w ys
unfolding pack
pack-append w a xs ys h e =
    let u = value w xs in
    let v = value w ys in
    let small : u < 2 ^ (8 * a) = rw (← e) (value_below w xs h) in
    let together : value w (xs ++ ys) ≡ u + 2 ^ (8 * a) * v = value-append w xs ys ∙ ap (λ (k : ℕ). u + 2 ^ k * v) e in
    let first : bytes_for (w * length xs) ≡ a = omega arith in
    let both : bytes_for (w * length (xs ++ ys)) ≡ a + bytes_for (w * length ys) =
    rw (length-append xs ys) (omega (arith, mul-add w (length xs) (length ys)))
    in
    rw (both, together, first, digits-add 8 a (bytes_for (w * length ys)) (u + 2 ^ (8 * a) * v))
    (ap₂ ◌++◌
    (sym (digits_low 8 a (8 * a) (u + 2 ^ (8 * a) * v) (le_refl (8 * a))) ∙ ap (digits 8 a) (first_digit (8 * a) v small))
    (ap (digits 8 (bytes_for (w * length ys))) (later_digits (8 * a) v small)))

below_alone : (w c : ℕ) → c < 2 ^ w → Below (2 ^ w) (c ∷ [])
below_alone w c h zero = h
below_alone w c h (suc i) = pow_pos w

-- Coefficients of 16 bits are packed in two bytes each.
pub packed_pairs : (cs : List ℕ) → Below (2 ^ 16) cs → concat_map (digits 8 2) cs ≡ pack 16 cs
unfolding concat_map pack value digits
packed_pairs [] h = refl
packed_pairs (c ∷ cs) h =
    let alone : c ≡ c + 2 ^ 16 * 0 = omega arith in
    ap₂ ◌++◌ (ap (digits 8 2) alone) (packed_pairs cs (λ i. h (suc i)))
    ∙ sym (pack-append 16 2 (c ∷ []) cs (below_alone 16 c (h zero)) refl)

-- ---- bit by bit

-- The bits below w of a number are those of its value modulo 2^w.
bit_low : (w j v : ℕ) → j < w → bit j (v % 2 ^ w) ≡ bit j v
bit_low w j v h =
    let e : w ≡ (w - suc j) + 1 + j = omega arith in
    ap (λ (k : ℕ). v % 2 ^ k / 2 ^ j % 2) e ∙ ap (λ (x : ℕ). x % 2) (field v (w - suc j + 1) j)
    ∙ mod-mod-pow (v / 2 ^ j) (w - suc j) 1

-- Bit j of digit i is bit w·i + j of the number.
digit-bit : (w i j v : ℕ) → j < w → bit j (v / 2 ^ (w * i) % 2 ^ w) ≡ bit (w * i + j) v
digit-bit w i j v h = bit_low w j (v / 2 ^ (w * i)) h ∙ ap (λ (x : ℕ). x % 2) (shr-shr v (w * i) j)

-- Bit m of a number is bit m % 8 of its byte m / 8.
byte_bit : (m v : ℕ) → bit (m % 8) (v / 2 ^ (8 * (m / 8)) % 2 ^ 8) ≡ bit m v
byte_bit m v =
    let e : 8 * (m / 8) + m % 8 ≡ m = omega arith in
    digit-bit 8 (m / 8) (m % 8) v (omega arith) ∙ ap (λ (k : ℕ). bit k v) e

-- 01's sentence: bit j of coefficient i is bit w·i + j of the string, which fills each byte from its bit 0.
pub pack-bit : (w : ℕ) (cs : List ℕ) (i j : ℕ) → Below (2 ^ w) cs → i < length cs → j < w
    → bit ((w * i + j) % 8) (get_or (pack w cs) ((w * i + j) / 8) 0) ≡ bit j (get_or cs i 0)
unfolding pack
pack-bit w cs i j h hi hj =
    let m = w * i + j in
    let v = value w cs in
    let inside : w * i + w ≤ w * length cs = omega (arith, mul-le-mul_left w hi, mul-suc w i) in
    let place : m / 8 < bytes_for (w * length cs) = omega arith in
    ap (bit (m % 8)) (digits_at 8 (bytes_for (w * length cs)) v (m / 8) place) ∙ byte_bit m v
    ∙ sym (digit-bit w i j v hj) ∙ ap (bit j) (sym (value_at w cs i h))

pub unpack-bit : (w n : ℕ) (bs : List ℕ) (i j : ℕ) → Below 256 bs → i < n → j < w
    → bit j (get_or (unpack w n bs) i 0) ≡ bit ((w * i + j) % 8) (get_or bs ((w * i + j) / 8) 0)
unfolding unpack
unpack-bit w n bs i j h hi hj =
    let m = w * i + j in
    let v = value 8 bs in
    ap (bit j) (digits_at w n v i hi) ∙ digit-bit w i j v hj ∙ sym (byte_bit m v) ∙ ap (bit (m % 8)) (sym (value_at 8 bs (m / 8) h))

-- ---- widths

-- The width of a power of two is its exponent.
pub width_of_power : (k i : ℕ) → i < k → count_trailing_zeros k (2 ^ i) ≡ i
unfolding count_trailing_zeros
width_of_power zero i h = absurd (not-suc-le-zero h)
width_of_power (suc k) zero h = refl
width_of_power (suc k) (suc i) h =
    let even : 2 ^ suc i % 2 ≡ 0 = rw pow-suc (mul-mod_left (2 ^ i) 2) in
    let half : 2 ^ suc i / 2 ≡ 2 ^ i = rw pow-suc (mul-div_cancel (2 ^ i) (suc-le-suc zero-le)) in
    rw (even, half) (ap suc (width_of_power k i (le_of_suc-le-suc h)))

-- A power of two is the number of values of its width.
pub power_of_width : (k i : ℕ) → i < k → 2 ^ count_trailing_zeros k (2 ^ i) ≡ 2 ^ i
power_of_width k i h = ap (λ (w : ℕ). 2 ^ w) (width_of_power k i h)

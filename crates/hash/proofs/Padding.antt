-- SHAKE's padding byte by byte, and its addition at the end of a block. Assumes nothing.
use mathlib.Core.Path.{◌≡◌, refl, sym, ap, ap₂, ◌∙◌}
use mathlib.Core.List.{List, [], ◌∷◌, ◌++◌}
use Prim.Native.Nat.{ℕ, zero, suc, ◌+◌, ◌-◌, ◌*◌, ◌/◌, ◌%◌, ◌^◌, ◌<◌}
use native.Mathlib.Nat.{zero-add, suc-add, mul_comm, mul_assoc, mod-lt, mod-eq_of_lt, div-add-mod', mul-mod_left, mul-div_cancel}
use native.Mathlib.Nat.{mul-add-mod_self_right, pow-suc}
use native.Mathlib.Omega.{arith}
use lib.Arith.{digits_mod, digits_div}
use lib.Bits.{bit_xor, xor_block, xor_lt, xor_zero_r}
use lib.ListN.{length, get_or, take, drop, set, replicate, length-append, length-replicate}
use lib.Pow.{pow-add, pow_pos, split}
use Rattle.keccak.proofs.Parts.{xor_into_nothing}
use Rattle.keccak.specs.Lists.{value, digits}
use Rattle.keccak.specs.Strings.{xor_into}
use Rattle.hash.specs.Shake.{pad101, bytes_of, padding}

-- The last k + 1 bytes of a padded message: 1F, zeros, 80, or 9F where they are one.
unfoldable pub last_bytes : ℕ → List ℕ
last_bytes zero = 159 ∷ []
last_bytes (suc k) = 31 ∷ (replicate k 0 ++ (128 ∷ []))

pub length-last_bytes : (k : ℕ) → length (last_bytes k) ≡ suc k
unfolding last_bytes
length-last_bytes zero = refl
length-last_bytes (suc k) = ap suc (length-append (replicate k 0) (128 ∷ []) ∙ rw length-replicate (omega arith))

-- A 1 above j zero bits.
value_top : (j : ℕ) → value 1 (replicate j 0 ++ (1 ∷ [])) ≡ 2 ^ j
unfolding value
value_top zero = refl
value_top (suc j) = zero-add _ ∙ ap (λ (x : ℕ). 2 * x) (value_top j) ∙ mul_comm 2 (2 ^ j) ∙ sym (pow-suc 2 j)

-- A top byte 80 above k zero bytes.
digits_top : (k : ℕ) → digits 8 (suc k) (128 * 2 ^ (8 * k)) ≡ replicate k 0 ++ (128 ∷ [])
unfolding digits
digits_top zero = refl
digits_top (suc k) =
    let bits : 8 * suc k ≡ 8 * k + 8 = omega arith in
    let e : 128 * 2 ^ (8 * suc k) ≡ 128 * 2 ^ (8 * k) * 2 ^ 8 =
    ap (λ (x : ℕ). 128 * 2 ^ x) bits ∙ ap (λ (x : ℕ). 128 * x) (pow-add 2 (8 * k) 8)
    ∙ sym (mul_assoc 128 (2 ^ (8 * k)) (2 ^ 8))
    in
    ap₂ (λ (x : ℕ) (l : List ℕ). x ∷ l)
    (ap (λ (x : ℕ). x % 2 ^ 8) e ∙ mul-mod_left (128 * 2 ^ (8 * k)) (2 ^ 8))
    (ap (digits 8 (suc k)) (ap (λ (x : ℕ). x / 2 ^ 8) e ∙ mul-div_cancel (128 * 2 ^ (8 * k)) (pow_pos 8)) ∙ digits_top k)

-- The bytes of 11111, then 8 k + 2 zero bits, then 1.
digits_last : (k : ℕ) → digits 8 (suc k) (31 + 32 * 2 ^ (8 * k + 2)) ≡ last_bytes k
unfolding last_bytes digits
digits_last zero = refl
digits_last (suc k) =
    let bits : 8 * suc k + 2 ≡ 8 * k + 10 = omega arith in
    let e : 31 + 32 * 2 ^ (8 * suc k + 2) ≡ 128 * 2 ^ (8 * k) * 2 ^ 8 + 31 =
    ap (λ (x : ℕ). 31 + 32 * 2 ^ x) bits ∙ ap (λ (x : ℕ). 31 + 32 * x) (pow-add 2 (8 * k) 10) ∙ omega arith
    in
    ap₂ (λ (x : ℕ) (l : List ℕ). x ∷ l)
    (ap (λ (x : ℕ). x % 2 ^ 8) e ∙ digits_mod (128 * 2 ^ (8 * k)) {m = 2 ^ 8} {r = 31} (omega arith))
    (ap (digits 8 (suc k)) (ap (λ (x : ℕ). x / 2 ^ 8) e ∙ digits_div (128 * 2 ^ (8 * k)) {m = 2 ^ 8} {r = 31} (omega arith)) ∙ digits_top k)

-- The zero bits of the padding, where k + 1 bytes are left in the block.
zero_bits : (r n k : ℕ) → n % r + k + 1 ≡ r → (8 * r - (8 * n + 4 + 2) % (8 * r)) % (8 * r) ≡ 8 * k + 2
zero_bits r n k e =
    let whole : 8 * n + 4 + 2 ≡ n / r * (8 * r) + (8 * (n % r) + 6) = omega (arith, div-add-mod' n r) in
    let rest : (8 * n + 4 + 2) % (8 * r) ≡ 8 * (n % r) + 6 =
    ap (λ (x : ℕ). x % (8 * r)) whole ∙ digits_mod (n / r) {m = 8 * r} {r = 8 * (n % r) + 6} (omega arith)
    in
    let left : 8 * r - (8 * (n % r) + 6) ≡ 8 * k + 2 = omega arith in
    ap (λ (x : ℕ). (8 * r - x) % (8 * r)) rest ∙ ap (λ (x : ℕ). x % (8 * r)) left ∙ mod-eq_of_lt (omega arith)

-- The padding in bytes.
pub padding_is : (r n k : ℕ) → n % r + k + 1 ≡ r → padding r n ≡ last_bytes k
unfolding padding bytes_of pad101 value
padding_is r n k e =
    let j = (8 * r - (8 * n + 4 + 2) % (8 * r)) % (8 * r) in
    let bits : List ℕ = 1 ∷ 1 ∷ 1 ∷ 1 ∷ 1 ∷ (replicate j 0 ++ (1 ∷ [])) in
    let zeros : List ℕ = replicate j 0 in
    let many : length (zeros ++ (1 ∷ [])) ≡ j + 1 = length-append zeros (1 ∷ []) ∙ rw length-replicate in
    let count : length bits / 8 ≡ suc k = omega (arith, many, zero_bits r n k e) in
    let number : value 1 bits ≡ 31 + 32 * 2 ^ (8 * k + 2) =
    ap (λ (x : ℕ). 1 + 2 * (1 + 2 * (1 + 2 * (1 + 2 * (1 + 2 * x))))) (value_top j ∙ ap (λ (x : ℕ). 2 ^ x) (zero_bits r n k e)) ∙
    omega arith
    in
    ap₂ (digits 8) count number ∙ digits_last k

-- It depends on the length within the block alone.
pub padding-mod : (r n : ℕ) → padding r n ≡ padding r (n % r)
unfolding padding bytes_of pad101
padding-mod r n =
    let whole : 8 * n + 4 + 2 ≡ n / r * (8 * r) + (8 * (n % r) + 4 + 2) = omega (arith, div-add-mod' n r) in
    let same : (8 * n + 4 + 2) % (8 * r) ≡ (8 * (n % r) + 4 + 2) % (8 * r) =
    ap (λ (x : ℕ). x % (8 * r)) whole ∙ mul-add-mod_self_right (n / r) (8 * r) (8 * (n % r) + 4 + 2)
    in
    rw same

-- ---- the padding added into a block

xor_both : (x : ℕ) → bit_xor (bit_xor x 31) 128 ≡ bit_xor x 159
xor_both x =
    let a = x / 2 ^ 7 in
    let r = x % 2 ^ 7 in
    let low : r < 2 ^ 7 = mod-lt x (pow_pos 7) in
    let five-ones : bit_xor r 31 < 2 ^ 7 = xor_lt 7 r 31 low (omega arith) in
    let parts : x ≡ a * 2 ^ 7 + r = sym (split x 7) in
    let first : bit_xor x 31 ≡ a * 2 ^ 7 + bit_xor r 31 =
    ap (λ (y : ℕ). bit_xor y 31) parts ∙ xor_block 7 a 0 r 31 low (omega arith)
    ∙ ap (λ (y : ℕ). y * 2 ^ 7 + bit_xor r 31) (xor_zero_r a)
    in
    ap (λ (y : ℕ). bit_xor y 128) first ∙ xor_block 7 a 1 (bit_xor r 31) 0 five-ones (omega arith)
    ∙ ap (λ (y : ℕ). bit_xor a 1 * 2 ^ 7 + y) (xor_zero_r (bit_xor r 31)) ∙ sym (xor_block 7 a 1 r 31 low (omega arith))
    ∙ ap (λ (y : ℕ). bit_xor y 159) (sym parts)

xor_last : (l : List ℕ) (k : ℕ) → set l k (bit_xor (get_or l k 0) 128) ≡ xor_into l (replicate k 0 ++ (128 ∷ []))
unfolding xor_into
xor_last [] k = refl
xor_last (x ∷ l) zero = ap (λ (r : List ℕ). bit_xor x 128 ∷ r) (sym (xor_into_nothing l))
xor_last (x ∷ l) (suc k) = ap₂ (λ (y : ℕ) (r : List ℕ). y ∷ r) (sym (xor_zero_r x)) (xor_last l k)

-- Its two bytes are added at the start and the end of what is left of the block.
xor_ends : (l : List ℕ) (k : ℕ)
    → set (set l 0 (bit_xor (get_or l 0 0) 31)) k (bit_xor (get_or (set l 0 (bit_xor (get_or l 0 0) 31)) k 0) 128) ≡ xor_into l (last_bytes k)
unfolding xor_into last_bytes
xor_ends [] k = refl
xor_ends (x ∷ l) zero = ap₂ (λ (y : ℕ) (r : List ℕ). y ∷ r) (xor_both x) (sym (xor_into_nothing l))
xor_ends (x ∷ l) (suc k) = ap (λ (r : List ℕ). bit_xor x 31 ∷ r) (xor_last l k)

pub xor_ends_at : (b : List ℕ) (k m : ℕ)
    → set (set b k (bit_xor (get_or b k 0) 31)) (k + m) (bit_xor (get_or (set b k (bit_xor (get_or b k 0) 31)) (k + m) 0) 128)
    ≡ take k b ++ xor_into (drop k b) (last_bytes m)
unfolding xor_into
xor_ends_at [] zero m = refl
xor_ends_at [] (suc k) m = refl
xor_ends_at (x ∷ b) zero m = rw zero-add (xor_ends (x ∷ b) m)
xor_ends_at (x ∷ b) (suc k) m = rw suc-add (ap (λ (r : List ℕ). x ∷ r) (xor_ends_at b k m))

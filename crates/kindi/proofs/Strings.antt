-- Laws of strings of polynomials: lists that are joined, packed, and read by coefficient; what is packed, and SHAKE's output,
-- are made of bytes. Assumes nothing.
use mathlib.Core.Path.{◌≡◌, sym, ap, ◌∙◌}
use mathlib.Core.List.{List, [], ◌∷◌, ◌++◌}
use Prim.Native.Nat.{ℕ, zero, suc, ◌+◌, ◌*◌, ◌/◌, ◌%◌, ◌^◌, ◌≤◌, ◌<◌}
use native.Mathlib.Nat.{mul-zero, mul-suc, suc-mul, mul_comm, mul_left_comm, mul-le-mul_right, zero-mul, mod-lt, not-suc-le-zero}
use native.Mathlib.Nat.{div-add-mod', div-lt_iff_lt-mul, lt_of_mul-lt-mul_left}
use native.Mathlib.Omega.{arith}
use lib.ListN.{length, get_or, length-append, get_or-append, get_or-eq_default}
use lib.Seq.{get_or-append-add, ext_get_or}
use lib.Pow.{pow_pos}
use Rattle.keccak.specs.Lists.{tabulate, value, digits}
use Rattle.hash.specs.Shake.{shake_byte, shake_from, shake}
use Rattle.keccak.proofs.Entries.{tabulate_at, length-tabulate}
use Rattle.hash.proofs.Laws.{shake-from-start, shake_byte_below}
use Rattle.keccak.proofs.Parts.{length_digits}
use Rattle.bits.specs.Bits.{Below, bytes_for, pack, unpack}
use Rattle.bits.proofs.Digits.{digits_at, digits_low, digits-tabulate, value-append, value_below, first_digit, length-unpack, unpack-pack}
use Rattle.ring.proofs.Ring.{sides}
use Rattle.kindi.specs.declared.Params.{Params}
use Rattle.kindi.specs.Params.{WellFormed, length_of}
use Rattle.kindi.specs.Streams.{coefficient}
use Rattle.kindi.specs.Keys.{joined}

-- m lists of a entries each have m times a entries.
pub length-joined : (m a : ℕ) (f : ℕ → List ℕ) → ((j : ℕ) → j < m → length (f j) ≡ a) → length (joined m f) ≡ m * a
unfolding joined
length-joined zero a f long = sym (zero-mul a)
length-joined (suc m) a f long =
    let before : length (joined m f) ≡ m * a = length-joined m a f (λ j h. long j (omega arith)) in
    let last : length (f m) ≡ a = long m (omega arith) in
    length-append (joined m f) (f m) ∙ rw (before, last) (sym (suc-mul m a))

-- Place x of list j lies within m lists of n entries.
pub place_below : {j m x n : ℕ} → j < m → x < n → j * n + x < m * n
place_below {j} {m} {x} {n} h l = omega (arith, mul-le-mul_right n h, suc-mul j n)

-- Entry x of list j.
pub joined_at : (m n : ℕ) (f : ℕ → List ℕ) (j x : ℕ) → ((i : ℕ) → i < m → length (f i) ≡ n) → j < m → x < n
    → get_or (joined m f) (j * n + x) 0 ≡ get_or (f j) x 0
unfolding joined
joined_at zero n f j x long h l = absurd (not-suc-le-zero h)
joined_at (suc m) n f j x long h l =
    let first : (i : ℕ) → i < m → length (f i) ≡ n = λ i k. long i (omega arith) in
    let before : length (joined m f) ≡ m * n = length-joined m n f first in
    sides m j
    (λ k.
    let same : j ≡ m = omega arith in
    rw (same, ← before) (get_or-append-add (joined m f) (f m) x 0))
    (λ k. get_or-append (joined m f) (f m) 0 (j * n + x) (rw before (place_below k l)) ∙ joined_at m n f j x first k l)

-- A list has entries below b where those before its end are.
pub entries_below : (b : ℕ) (xs : List ℕ) → 0 < b → ((i : ℕ) → i < length xs → get_or xs i 0 < b) → Below b xs
entries_below b xs some below i = sides (length xs) i (λ h. rw (get_or-eq_default xs 0 {n = i} h) some) (below i)

-- So has a table whose values are.
pub tabulate_below : (b n : ℕ) (f : ℕ → ℕ) → 0 < b → ((i : ℕ) → i < n → f i < b) → Below b (tabulate n f)
tabulate_below b n f some below =
    entries_below b (tabulate n f) some
    (λ i h.
    let l : i < n = rw (length-tabulate n f) at h in
    rw (tabulate_at n f i 0 l) (below i l))

-- Two lists with entries below b, one after the other, are such a list.
pub append_below : (b : ℕ) (xs ys : List ℕ) → Below b xs → Below b ys → Below b (xs ++ ys)
append_below b [] ys p q i = q i
append_below b (x ∷ xs) ys p q zero = p zero
append_below b (x ∷ xs) ys p q (suc i) = append_below b xs ys (λ k. p (suc k)) q i

-- So are m of them.
pub joined_below : (b m : ℕ) (f : ℕ → List ℕ) → 0 < b → ((j : ℕ) → j < m → Below b (f j)) → Below b (joined m f)
unfolding joined
joined_below b zero f some below = λ i. some
joined_below b (suc m) f some below =
    append_below b (joined m f) (f m) (joined_below b m f some (λ j h. below j (omega arith))) (below m (omega arith))

-- A coefficient is an entry of the unpacked string.
pub coefficient-unpack : (w n N : ℕ) (bytes : List ℕ) (j x : ℕ) → j * n + x < N
    → coefficient w n bytes j x ≡ get_or (unpack w N bytes) (j * n + x) 0
unfolding coefficient unpack
coefficient-unpack w n N bytes j x h = sym (digits_at w N (value 8 bytes) (j * n + x) h)

-- Every coefficient is below 2^w.
pub coefficient_below : (w n : ℕ) (bytes : List ℕ) (j x : ℕ) → coefficient w n bytes j x < 2 ^ w
unfolding coefficient
coefficient_below w n bytes j x = mod-lt (value 8 bytes / 2 ^ (w * (j * n + x))) (pow_pos w)

-- What was packed is read back.
pub coefficient_packed : (w n m : ℕ) (f : ℕ → List ℕ) (j x : ℕ) → ((i : ℕ) → i < m → length (f i) ≡ n)
    → ((i : ℕ) → i < m → Below (2 ^ w) (f i)) → j < m → x < n → coefficient w n (pack w (joined m f)) j x ≡ get_or (f j) x 0
coefficient_packed w n m f j x long below h l =
    let N : ℕ = length (joined m f) in
    let inside : j * n + x < N = rw (length-joined m n f long) (place_below h l) in
    coefficient-unpack w n N (pack w (joined m f)) j x inside
    ∙ ap (λ (cs : List ℕ). get_or cs (j * n + x) 0) (unpack-pack w (joined m f) (joined_below (2 ^ w) m f (pow_pos w) below))
    ∙ joined_at m n f j x long h l

-- What follows the string is not read.
pub coefficient-append : (w n : ℕ) (xs ys : List ℕ) (j x : ℕ) → Below 256 xs → w * (j * n + x) + w ≤ 8 * length xs
    → coefficient w n (xs ++ ys) j x ≡ coefficient w n xs j x
unfolding unpack
coefficient-append w n xs ys j x b h =
    let i : ℕ = j * n + x in
    let m : ℕ = 8 * length xs in
    let v : ℕ = value 8 xs + 2 ^ m * value 8 ys in
    let read : w * suc i ≤ m = rw mul-suc h in
    coefficient-unpack w n (suc i) (xs ++ ys) j x (omega arith)
    ∙ ap (λ (z : ℕ). get_or (digits w (suc i) z) i 0) (value-append 8 xs ys)
    ∙ ap (λ (l : List ℕ). get_or l i 0)
    (sym (digits_low w (suc i) m v read) ∙ ap (digits w (suc i)) (first_digit m (value 8 ys) (value_below 8 xs b)))
    ∙ sym (coefficient-unpack w n (suc i) xs j x (omega arith))

-- The lists of the coefficients of a string, one after another, are the unpacked string.
pub joined-unpack : (w n m : ℕ) (f : ℕ → List ℕ) (bytes : List ℕ) → ((i : ℕ) → i < m → length (f i) ≡ n)
    → ((j x : ℕ) → j < m → x < n → get_or (f j) x 0 ≡ coefficient w n bytes j x) → joined m f ≡ unpack w (m * n) bytes
joined-unpack w n m f bytes long each =
    let total : length (joined m f) ≡ m * n = length-joined m n f long in
    ext_get_or 0 (joined m f) (unpack w (m * n) bytes) (total ∙ sym (length-unpack w (m * n) bytes)) (λ i h. at i (rw total at h))
  where
    at : (i : ℕ) → i < m * n → get_or (joined m f) i 0 ≡ get_or (unpack w (m * n) bytes) i 0
    at i h =
        let some : 0 < n = lt_of_mul-lt-mul_left m (omega (arith, mul-zero m)) in
        let j : ℕ = i / n in
        let x : ℕ = i % n in
        let place : j * n + x ≡ i = div-add-mod' i n in
        let row : j < m = (div-lt_iff_lt-mul some).1 h in
        let column : x < n = mod-lt i some in
        let inside : j * n + x < m * n = place_below row column in
        rw (← place) (joined_at m n f j x long row column ∙ each j x row column ∙ coefficient-unpack w n (m * n) bytes j x inside)

-- The number of bytes of a packed list.
pub length-pack : (w : ℕ) (cs : List ℕ) → length (pack w cs) ≡ bytes_for (w * length cs)
unfolding pack
length-pack w cs = length_digits 8 (bytes_for (w * length cs)) (value w cs)

-- m polynomials of w bits a coefficient fill whole bytes.
pub whole_bytes : (P : Params) → WellFormed P → (m w : ℕ) → w * (m * P.n) ≡ 8 * length_of P m w
unfolding length_of
whole_bytes P wf m w = ap (λ (n : ℕ). w * (m * n)) wf.eights ∙ regroup (P.n / 8)
  where
    regroup : (d : ℕ) → w * (m * (8 * d)) ≡ 8 * (m * (d * w))
    regroup d = simp (mul_comm, mul_left_comm)

-- So these are their number when m polynomials are packed.
pub length_string : (P : Params) → WellFormed P → (m w : ℕ) (f : ℕ → List ℕ) → ((j : ℕ) → j < m → length (f j) ≡ P.n)
    → length (pack w (joined m f)) ≡ length_of P m w
length_string P wf m w f long =
    length-pack w (joined m f) ∙ rw (length-joined m P.n f long, whole_bytes P wf m w) (omega arith)

-- ---- bytes

-- What is packed is made of bytes.
pub pack_below : (w : ℕ) (cs : List ℕ) → Below 256 (pack w cs)
unfolding pack
pack_below w cs =
    let m : ℕ = bytes_for (w * length cs) in
    let v : ℕ = value w cs in
    rw (digits-tabulate 8 m v)
    (tabulate_below 256 m (λ i. v / 2 ^ (8 * i) % 2 ^ 8) (pow_pos 8) (λ i h. mod-lt (v / 2 ^ (8 * i)) (pow_pos 8)))

-- So is SHAKE's output from any place on.
pub shake-from_below : (r : ℕ) (m : List ℕ) (i n : ℕ) → Below 256 (shake_from r m i n)
unfolding shake_from
shake-from_below r m i n = tabulate_below 256 n (λ j. shake_byte r m (i + j)) (pow_pos 8) (λ j h. shake_byte_below r m (i + j))

-- So is the whole.
pub shake_below : (r : ℕ) (m : List ℕ) (n : ℕ) → Below 256 (shake r m n)
shake_below r m n = rw (← shake-from-start r m n) (shake-from_below r m 0 n)

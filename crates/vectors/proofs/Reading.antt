-- Laws of reading polynomials from strings into vectors. Assumes nothing.
use mathlib.Core.Path.{◌≡◌, refl, sym, ap, ap₂, ◌∙◌}
use mathlib.Core.List.{List, ◌++◌}
use Prim.Native.Nat.{ℕ, zero, suc, ◌+◌, ◌-◌, ◌*◌, ◌/◌, ◌%◌, ◌^◌, ◌≤◌, ◌<◌, suc-le-suc, zero-le}
use native.Mathlib.Nat.{zero-add, zero-mul, suc-mul, add-mul, add_assoc, mul-add, div-div-eq-div-mul, le_refl, le_step, lt_of_lt_of_le}
use lib.IntN.{ℤ, pos}
use lib.ListN.{length, get_or, take, drop}
use Rattle.keccak.proofs.Parts.{take_rest}
use lib.Pow.{pow-add, pow_mono}
use Rattle.keccak.specs.Lists.{tabulate, value, digits}
use Rattle.keccak.proofs.Entries.{tabulate_at, tabulate-add}
use Rattle.bits.specs.Bits.{Below, unpack}
use Rattle.ring.specs.Integers.{Cong, residue, centred}
use Rattle.ring.specs.Poly.{Poly, parts, residues}
use Rattle.ring.specs.Coefficients.{centred_words}
use Rattle.bits.proofs.Digits.{digits-tabulate, value-drop, length-unpack}
use Rattle.bits.proofs.Filling.{tabulate_ext}
use Rattle.ring.proofs.Modular.{residue-small, residue_cong, cong_trans, cong_of_eq}
use Rattle.ring.proofs.Residues.{residues_at, length-residues}
use Rattle.kindi.specs.declared.Params.{Params}
use Rattle.kindi.specs.Params.{WellFormed, length_of}
use Rattle.kindi.specs.Streams.{coefficient}
use Rattle.kindi.specs.Keys.{joined}
use Rattle.kindi.proofs.Strings.{whole_bytes, joined_at, place_below, coefficient-unpack, coefficient_below}
use Rattle.vectors.specs.Vectors.{vector}

-- The coefficients from polynomial a of a string on.
pub unpack-from : (P : Params) → WellFormed P → (w N a : ℕ) (bytes : List ℕ) → Below 256 bytes
    → unpack w N (drop (length_of P a w) bytes) ≡ tabulate N (coefficient w P.n bytes a)
unfolding unpack coefficient
unpack-from P W w N a bytes below =
    let c : ℕ = length_of P a w in
    let v : ℕ = value 8 bytes in
    ap (digits w N) (value-drop 8 bytes c below) ∙ digits-tabulate w N (v / 2 ^ (8 * c))
    ∙ tabulate_ext N _ _ (λ x h.
    ap (λ (u : ℕ). u % 2 ^ w)
    (div-div-eq-div-mul v (2 ^ (8 * c)) (2 ^ (w * x))
    ∙ ap (λ (u : ℕ). v / u) (sym (pow-add 2 (8 * c) (w * x)))
    ∙ ap (λ (u : ℕ). v / 2 ^ u) (ap (λ (u : ℕ). u + w * x) (sym (whole_bytes P W a w)) ∙ sym (mul-add w (a * P.n) x))))

-- A coefficient counted from polynomial a on.
coefficient_on : (w n : ℕ) (bytes : List ℕ) (a i x : ℕ) → coefficient w n bytes a (i * n + x) ≡ coefficient w n bytes (a + i) x
unfolding coefficient
coefficient_on w n bytes a i x =
    ap (λ (m : ℕ). value 8 bytes / 2 ^ (w * m) % 2 ^ w) (sym (add_assoc (a * n) (i * n) x) ∙ ap (λ (m : ℕ). m + x) (sym (add-mul a i n)))

-- A list of entries is a vector where they are the polynomials' coefficients.
pub flat : (m n : ℕ) (f : ℕ → Poly) (g : ℕ → ℤ) → ((i x : ℕ) → i < m → x < n → g (i * n + x) ≡ f i x)
    → residues 65536 (m * n) g ≡ vector m n f
unfolding vector joined residues tabulate
flat zero n f g each = rw (zero-mul n) refl
flat (suc m) n f g each =
    rw (suc-mul m n) (tabulate-add (m * n) n (λ k. residue 65536 (g k))
    ∙ ap₂ ◌++◌ (flat m n f g (λ i x h l. each i x (le_step h) l)) (tabulate_ext n _ _ (λ x h. ap (residue 65536) (each m x (le_refl _) h))))

-- A coefficient of what is left of a string after a polynomials.
pub coefficient-drop : (P : Params) → WellFormed P → (w a i x : ℕ) (bytes : List ℕ) → Below 256 bytes
    → coefficient w P.n (drop (length_of P a w) bytes) i x ≡ coefficient w P.n bytes (a + i) x
coefficient-drop P W w a i x bytes below =
    let N : ℕ = suc (i * P.n + x) in
    coefficient-unpack w P.n N (drop (length_of P a w) bytes) i x (le_refl _)
    ∙ ap (λ (l : List ℕ). get_or l (i * P.n + x) 0) (unpack-from P W w N a bytes below)
    ∙ tabulate_at N (coefficient w P.n bytes a) (i * P.n + x) 0 (le_refl _) ∙ coefficient_on w P.n bytes a i x

-- A coefficient counted from the first polynomial on is an entry of the unpacked string.
pub coefficient_first : (w n N : ℕ) (bytes : List ℕ) (x : ℕ) → x < N → coefficient w n bytes 0 x ≡ get_or (unpack w N bytes) x 0
coefficient_first w n N bytes x h =
    let none : 0 * n + x ≡ x = ap (λ (k : ℕ). k + x) (zero-mul n) ∙ zero-add x in
    coefficient-unpack w n N bytes 0 x (rw none h) ∙ ap (λ (k : ℕ). get_or (unpack w N bytes) k 0) none

-- Values less c are a vector.
pub small-vector : (m n w c : ℕ) (bytes : List ℕ)
    → centred_words c (unpack w (m * n) bytes) ≡ vector m n (λ i x. centred c (coefficient w n bytes i x))
small-vector m n w c bytes =
    ap (λ (k : ℕ). residues 65536 k (λ y. centred c (get_or (unpack w (m * n) bytes) y 0))) (length-unpack w (m * n) bytes)
    ∙ flat m n _ _ (λ i x h l. ap (centred c) (sym (coefficient-unpack w n (m * n) bytes i x (place_below h l))))

-- Coefficients as they are, from polynomial a on.
plain_entries : (P : Params) → WellFormed P → (N w a : ℕ) (bytes : List ℕ) → w ≤ 16 → Below 256 bytes
    → unpack w N (drop (length_of P a w) bytes) ≡ residues 65536 N (λ x. pos (coefficient w P.n bytes a x))
unfolding residues
plain_entries P W N w a bytes h below =
    unpack-from P W w N a bytes below
    ∙ tabulate_ext N _ _ (λ y l. sym (residue-small (lt_of_lt_of_le (coefficient_below w P.n bytes a y) (pow_mono h))))

-- The same of the rest of a string, as the checker writes it.
pub rest_entries : (P : Params) → WellFormed P → (w a : ℕ) {N : ℕ} (M from : ℕ) (bytes : List ℕ) → w ≤ 16 → Below 256 bytes
    → from ≡ length_of P a w → N ≡ M
    → unpack w N (take (length bytes - from) (drop from bytes)) ≡ residues 65536 M (λ x. pos (coefficient w P.n bytes a x))
rest_entries P W w a M from bytes h below e f =
    ap₂ (λ (m : ℕ) (l : List ℕ). unpack w m l) f (take_rest from bytes ∙ ap (λ (m : ℕ). drop m bytes) e)
    ∙ plain_entries P W M w a bytes h below

-- A vector has its polynomials, modulo 2^16.
pub vector_cong : (m n : ℕ) (f : ℕ → Poly) (i x : ℕ) → i < m → x < n → Cong 65536 (parts n (vector m n f) i x) (f i x)
unfolding vector
vector_cong m n f i x h l =
    cong_trans
    (cong_of_eq (ap pos (joined_at m n (λ j. residues 65536 n (f j)) i x (λ j _. length-residues 65536 n (f j)) h l ∙ residues_at 65536 n (f i) l)))
    (residue_cong (suc-le-suc zero-le) (f i x))

-- Rows of five, and the rotation of a lane as the code writes it. Assumes nothing.
use mathlib.Core.Path.{◌≡◌, sym, ap, ap₂, ◌∙◌, subst}
use mathlib.Core.List.{List, [], ◌∷◌}
use Prim.Native.Nat.{ℕ, zero, suc, ◌+◌, ◌-◌, ◌*◌, ◌/◌, ◌%◌, ◌^◌, ◌<◌}
use native.Mathlib.Nat.{mod-eq_of_lt, div-eq_of_lt, mul-one, div-one, add-zero, add_comm, mul-mod_left}
use native.Mathlib.Omega.{arith}
use lib.Bits.{bit_or, or_self, or_shifted}
use lib.Pow.{mod-pow-add, shr_lt, shl-shr}
use lib.ListN.{get_or}
use Rattle.std.specs.Int.{w64, rotate_left}
use Rattle.keccak.specs.Keccak.{five, xor_row, column, effect, theta, rotl}

-- Two lists of five are equal when their entries are.
pub five_equal : {A : Type 0} {a b c d e a' b' c' d' e' : A} → a ≡ a' → b ≡ b' → c ≡ c' → d ≡ d' → e ≡ e'
    → ◌≡◌ {A = List A} (a ∷ b ∷ c ∷ d ∷ e ∷ []) (a' ∷ b' ∷ c' ∷ d' ∷ e' ∷ [])
five_equal p q r s t = λ i. p i ∷ q i ∷ r i ∷ s i ∷ t i ∷ []

-- Theta row by row: s has the sums of the columns, d their effects, which are added to each row.
pub theta-rows : (a : List (List ℕ)) {p q r s d t0 t1 t2 t3 t4 : List ℕ} → p ≡ xor_row (get_or a 0 []) (get_or a 1 []) → q ≡ xor_row p (get_or a 2 [])
    → r ≡ xor_row q (get_or a 3 []) → s ≡ xor_row r (get_or a 4 []) → d ≡ five (effect s)
    → t0 ≡ xor_row (get_or a 0 []) d → t1 ≡ xor_row (get_or a 1 []) d → t2 ≡ xor_row (get_or a 2 []) d → t3 ≡ xor_row (get_or a 3 []) d
    → t4 ≡ xor_row (get_or a 4 []) d
    → ◌≡◌ {A = List (List ℕ)} (t0 ∷ t1 ∷ t2 ∷ t3 ∷ t4 ∷ []) (theta a)
unfolding theta
theta-rows a {s = s} {d = d} ep eq er es ed e0 e1 e2 e3 e4 =
    let with_row : List ℕ → ℕ → List ℕ = λ l y. xor_row l (get_or a y []) in
    let sums : s ≡ five (column a) =
    es ∙ ap (λ (l : List ℕ). with_row l 4) (er ∙ ap (λ (l : List ℕ). with_row l 3) (eq ∙ ap (λ (l : List ℕ). with_row l 2) ep))
    in
    let effects : d ≡ five (effect (five (column a))) = ed ∙ ap (λ (l : List ℕ). five (effect l)) sums in
    let row : ℕ → List ℕ → List ℕ = λ y l. xor_row (get_or a y []) l in
    five_equal (e0 ∙ ap (row 0) effects) (e1 ∙ ap (row 1) effects) (e2 ∙ ap (row 2) effects) (e3 ∙ ap (row 3) effects)
    (e4 ∙ ap (row 4) effects)

-- A lane moved up by k places holds its j low bits, where j and k are 64 together.
shifted : (j k v : ℕ) → j + k ≡ 64 → (v * 2 ^ k) % 2 ^ 64 ≡ (v % 2 ^ j) * 2 ^ k
shifted j k v e =
    ap (λ (w : ℕ). (v * 2 ^ k) % 2 ^ w) (sym e) ∙ mod-pow-add (v * 2 ^ k) j k
    ∙ ap₂ (λ (x y : ℕ). x % 2 ^ j * 2 ^ k + y) (shl-shr v k) (mul-mod_left v (2 ^ k)) ∙ add-zero _

joined : (j k v : ℕ) → j + k ≡ 64 → v < 2 ^ 64 → bit_or ((v * 2 ^ k) % 2 ^ 64) (v / 2 ^ j) ≡ (v * 2 ^ k) % 2 ^ 64 + v / 2 ^ j
joined j k v e l =
    let fits : v < 2 ^ (k + j) = subst (λ (w : ℕ). v < 2 ^ w) (sym (add_comm k j ∙ e)) l in
    rw (shifted j k v e) (or_shifted (v % 2 ^ j) k (v / 2 ^ j) (shr_lt k j fits))

-- The two shifts of a lane, one of them by 64 − n taken modulo 64, join to the rotation.
rotl_shifts : (n v : ℕ) → n < 64 → v < 2 ^ 64 → bit_or ((v * 2 ^ n) % 2 ^ 64) (v / 2 ^ ((64 - n) % 64)) ≡ rotl n v
rotl_shifts zero v h l =
    let low : (v * 1) % 2 ^ 64 ≡ v = ap (λ (x : ℕ). x % 2 ^ 64) (mul-one v) ∙ mod-eq_of_lt l in
    ap₂ bit_or low (div-one v) ∙ or_self v ∙ sym (ap₂ ◌+◌ low (div-eq_of_lt l) ∙ add-zero v)
rotl_shifts (suc n) v h l =
    let rest : (64 - suc n) % 64 ≡ 64 - suc n = mod-eq_of_lt (omega arith) in
    rw rest (joined (64 - suc n) (suc n) v (omega arith) l)

-- The library's rotation is that of the definitions.
pub rotated : (n v : ℕ) → n < 64 → v < 2 ^ 64 → rotate_left w64 v n ≡ rotl n v
rotated n v h l =
    ap (λ (m : ℕ). bit_or ((v * 2 ^ m) % 2 ^ 64) (v / 2 ^ ((64 - m) % 64))) (mod-eq_of_lt h) ∙ rotl_shifts n v h l

-- The matrix is that of 01's sentence: the whole stream of μ read row by row, k bits a coefficient. Assumes nothing.
use mathlib.Core.Path.{◌≡◌, sym, ap, ◌∙◌}
use mathlib.Core.List.{List, ◌++◌}
use Prim.Native.Nat.{ℕ, ◌+◌, ◌-◌, ◌*◌, ◌≤◌, ◌<◌}
use native.Mathlib.Nat.{add-zero, mul-le-mul_left, mul-suc, one-mul, zero-mul, zero-add}
use native.Mathlib.Omega.{arith}
use lib.IntN.{pos}
use lib.ListN.{length, drop}
use Rattle.hash.specs.Shake.{shake, shake_from}
use Rattle.hash.proofs.Laws.{shake-from-drop, shake-from-add, length-shake-from}
use Rattle.kindi.specs.declared.Params.{Params}
use Rattle.kindi.specs.Params.{WellFormed, length_of, polynomial_length, matrix_length}
use Rattle.kindi.specs.Streams.{coefficient, matrix_list, matrix}
use Rattle.kindi.proofs.Strings.{coefficient-append, whole_bytes, shake_below, shake-from_below}
use Rattle.vectors.proofs.Amounts.{cell, within}
use Rattle.vectors.proofs.Reading.{coefficient-drop, coefficient_first}

-- Polynomial m of a stream that is long enough is what the stream gives from its place on.
polynomial_whole : (P : Params) → WellFormed P → (μ : List ℕ) (m x long : ℕ) → length_of P m P.k + polynomial_length P ≤ long → x < P.n
    → coefficient P.k P.n (shake_from P.rate μ (length_of P m P.k) (polynomial_length P)) 0 x
    ≡ coefficient P.k P.n (shake P.rate μ long) m x
polynomial_whole P W μ m x long h l =
    let r : ℕ = P.rate in
    let from : ℕ = length_of P m P.k in
    let one : ℕ = polynomial_length P in
    let rest : ℕ = long - (from + one) in
    let total : from + (one + rest) ≡ long = omega arith in
    let first : List ℕ = shake_from r μ from one in
    let behind : drop from (shake r μ long) ≡ first ++ shake_from r μ (from + one) rest
    = ap (λ (n : ℕ). drop from (shake r μ n)) (sym total) ∙ shake-from-drop r μ from (one + rest) ∙ shake-from-add r μ from one rest in
    let room : P.k * (0 * P.n + x) + P.k ≤ 8 * length first
    = rw (length-shake-from r μ from one, sym (whole_bytes P W 1 P.k), zero-mul P.n, zero-add x, one-mul P.n)
    (rw (sym (mul-suc P.k x)) (mul-le-mul_left P.k l)) in
    sym (coefficient-append P.k P.n first (shake_from r μ (from + one) rest) 0 x (shake-from_below r μ from one) room)
    ∙ ap (λ (bytes : List ℕ). coefficient P.k P.n bytes 0 x) (sym behind)
    ∙ coefficient-drop P W P.k m 0 x (shake r μ long) (shake_below r μ long)
    ∙ ap (λ (n : ℕ). coefficient P.k P.n (shake r μ long) n x) (add-zero m)

-- Polynomial (i, j) of A is polynomial i·ℓ + j of the whole stream.
pub matrix_whole : (P : Params) → WellFormed P → (μ : List ℕ) (i j x : ℕ) → i < P.l → j < P.l → x < P.n
    → matrix P μ i j x ≡ pos (coefficient P.k P.n (shake P.rate μ (matrix_length P)) (i * P.l + j) x)
unfolding matrix matrix_list
matrix_whole P W μ i j x h k l =
    ap pos
    (sym (coefficient_first P.k P.n P.n _ x l)
    ∙ polynomial_whole P W μ (i * P.l + j) x (matrix_length P) (within P P.k (cell h k)) l)

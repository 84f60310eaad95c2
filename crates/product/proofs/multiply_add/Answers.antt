-- `product::multiply_add` meets its contract: the product is that of the other factor's Toeplitz matrix.
-- Assumes nothing.
use mathlib.Core.Path.{◌≡◌, refl, sym, ap, ◌∙◌}
use mathlib.Core.List.{List, ◌++◌}
use Prim.Native.Nat.{ℕ, ◌*◌, ◌≤◌}
use native.Mathlib.Omega.{arith}
use lib.ListN.{length, drop, replicate, length-replicate}
use lib.Seq.{length-take-le, length_front}
use Rattle.product.proofs.Dots.{product_of_row}
use Rattle.product.proofs.multiply_add.Goals as goal

-- The array of zeros, which has room for the longest row.
abbrev room : List ℕ
room = replicate {A = ℕ} 1024 0

zeros : length room ≡ 1024
zeros = length-replicate {A = ℕ} 1024 0

pub slice_bounds-double-end : goal.slice_bounds-double-end
slice_bounds-double-end c =
    let a = c.args in
    let short : length a.acc.now ≤ 512 = c.requires.short in
    sym (length-take-le (2 * length a.acc.now) room (omega arith))

pub double-requires : goal.double-requires
double-requires c =
    let a = c.args in
    let short : length a.acc.now ≤ 512 = c.requires.short in
    length-take-le (2 * length a.acc.now) room (omega arith) ∙ ap (λ (n : ℕ). 2 * n) (sym c.requires.second)

pub slice_bounds-row-end-2 : goal.slice_bounds-row-end-2
slice_bounds-row-end-2 c =
    let a = c.args in
    let short : length a.acc.now ≤ 512 = c.requires.short in
    let wide : length (c.double.new.row ++ drop (2 * length a.acc.now) room) ≡
    1024 = length_front room c.double.new.row (2 * length a.acc.now)
    c.double.auto.row ∙ zeros in
    omega arith

pub slice_bounds-toeplitz-end : goal.slice_bounds-toeplitz-end
slice_bounds-toeplitz-end c =
    let a = c.args in
    let short : length a.acc.now ≤ 512 = c.requires.short in
    let wide : length (c.double.new.row ++ drop (2 * length a.acc.now) room) ≡
    1024 = length_front room c.double.new.row (2 * length a.acc.now)
    c.double.auto.row ∙ zeros in
    sym (length-take-le (2 * length a.acc.now) _ (omega arith))

pub toeplitz-requires : goal.toeplitz-requires
toeplitz-requires c =
    let a = c.args in
    let short : length a.acc.now ≤ 512 = c.requires.short in
    let wide : length (c.double.new.row ++ drop (2 * length a.acc.now) room) ≡
    1024 = length_front room c.double.new.row (2 * length a.acc.now)
    c.double.auto.row ∙ zeros in
    record { sum_long = refl; row_long = length-take-le (2 * length a.acc.now) _ (omega arith); vector_long = c.requires.first }

pub returns : goal.returns
returns c =
    let a = c.args in
    c.toeplitz.ensures ∙ product_of_row a.acc.now a.a.now a.b.now c.double.new.row
    (drop (2 * length a.acc.now) room) c.requires c.double.ensures

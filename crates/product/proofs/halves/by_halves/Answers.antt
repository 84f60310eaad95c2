-- `product::halves::by_halves` meets its contract: the three products of half the length make up the whole.
-- Assumes nothing.
use mathlib.Core.Path.{◌≡◌, refl, ◌∙◌}
use Prim.Native.Nat.{ℕ}
use lib.ListN.{length, length-replicate}
use Rattle.product.proofs.Joining.{halves_joined}
use Rattle.product.proofs.halves.by_halves.Goals as goal

pub returns : goal.returns
returns g c =
    let a = c.args in
    let h = g.row.H in
    let n = g.row.N in
    let room : length c.row_difference.new.dst ≡ n = c.row_difference.auto.dst ∙ length-replicate {A = ℕ} n 0 in
    halves_joined h n a.acc.now a.row.now a.v.now c.requires.halves c.requires.matrix refl
    (rw (length-replicate {A = ℕ} h 0) at c.fold.ensures)
    c.multiply_add.ensures
    (rw (length-replicate {A = ℕ} n 0) at c.row_difference.ensures)
    c.multiply_add-2.ensures
    (rw room at c.row_difference-2.ensures)
    c.multiply_add-3.ensures c.add.ensures c.add-2.ensures

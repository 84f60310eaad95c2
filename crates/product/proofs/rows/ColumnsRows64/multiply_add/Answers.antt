-- A matrix of 64 rows by columns: the product is summed up apart, and then added.
-- Assumes nothing.
use mathlib.Core.Path.{refl, ◌∙◌}
use Rattle.product.proofs.Joining.{sums_added}
use Rattle.product.proofs.rows.ColumnsRows64.multiply_add.Goals as goal

pub returns : goal.returns
returns c =
    let a = c.args in
    c.add.ensures ∙ sums_added 64 a.acc.now _ a.row.now a.v.now c.requires.sum_long refl c.toeplitz_rows.ensures

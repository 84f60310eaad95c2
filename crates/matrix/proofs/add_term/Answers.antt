-- `matrix::add_term` meets its contract.
-- Assumes nothing.
use Rattle.matrix.proofs.Terms.{term_added}
use Rattle.matrix.proofs.add_term.Goals as goal

pub returns : goal.returns
returns c =
    let a = c.args in
    term_added a.n a.from a.to a.a.now a.v.now a.sums.now c.requires c.multiply_add.ensures

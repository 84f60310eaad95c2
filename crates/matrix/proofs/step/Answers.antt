-- `matrix::step` meets its contract.
-- Assumes nothing.
use Rattle.matrix.proofs.Terms.{term_room, selected_inside, stepped}
use mathlib.Core.Path.{◌∙◌}
use Rattle.matrix.proofs.step.Goals as goal

pub add_term-requires : goal.add_term-requires
add_term-requires c =
    let a = c.args in
    let pre = c.requires in
    term_room a.p pre.room.well _ a.v.now a.sums.now (c.fetch-after.auto.a ∙ pre.room.list_long)
    pre.room.vector_long pre.room.sums_long
    (search selected_inside) (search selected_inside)

pub returns : goal.returns
returns c = stepped c.fetch-after.ensures c.select-from.ensures c.select-to.ensures c.add_term.ensures

-- `keccak::rounds::rho` meets its contract: each row is turned by its row of the table, which is that of the walk.
-- Assumes nothing.
use mathlib.Core.Path.{◌∙◌}
use Rattle.keccak.proofs.Rows.{five_equal}
use Rattle.keccak.proofs.Tables.{rho_by_table}
use Rattle.keccak.proofs.rounds.rho.Goals as goal

pub returns : goal.returns
returns c =
    five_equal
    c.rotate_row.ensures
    c.rotate_row-2.ensures
    c.rotate_row-3.ensures
    c.rotate_row-4.ensures
    c.rotate_row-5.ensures
    ∙ rho_by_table c.rho_offsets-n.result c.args.a c.rho_offsets-n.ensures.rule

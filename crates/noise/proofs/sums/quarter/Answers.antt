-- `noise::sums::quarter` meets its contract.
-- Assumes nothing.
use mathlib.Core.Path.{ap, ◌∙◌}
use lib.IntN.{pos}
use mir.Syntax.{w32}
use mir.ValLaws.{to_z-of_z}
use Rattle.noise.proofs.Bounds.{quarter_power}
use Rattle.noise.proofs.sums.quarter.Goals as goal

pub returns : goal.returns
returns c =
    to_z-of_z w32 c.from.result (record { sfits = c.from.type_inv }) ∙ c.from.ensures
    ∙ ap pos (c.power.ensures ∙ quarter_power c.args.p.k c.requires.quarters)

-- `signed::centre` meets its contract: after k turns the first k values are centred.
-- Assumes nothing.
use mathlib.Core.Path.{◌∙◌}
use native.Mathlib.Omega.{arith}
use lib.IntN.{pos}
use mir.Syntax.{w16}
use mir.ValLaws.{to_z-of_z}
use Rattle.bits.proofs.Filling.{filling_more}
use Rattle.signed.proofs.centre.Goals as goal

pub less-requires : goal.less-requires
less-requires c = (c.requires.0 c.loop-k.k, omega arith)

pub loop-k-preserved : goal.loop-k-preserved
loop-k-preserved c =
    filling_more (pos 0) c.loop-k.invariant (omega arith) (to_z-of_z w16 c.less.result (record { sfits = c.less.type_inv }) ∙ c.less.ensures)

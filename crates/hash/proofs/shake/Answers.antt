-- `hash::shake` meets its contract: the first bytes are those from place 0 on.
-- Assumes nothing.
use mathlib.Core.Path.{◌∙◌}
use Rattle.hash.proofs.Laws.{shake-from-start}
use Rattle.hash.proofs.shake.Goals as goal

pub returns : goal.returns
returns c = c.shake_from.ensures ∙ shake-from-start _ _ _

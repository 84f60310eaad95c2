-- `vectors::small` meets its contract.
-- Assumes nothing.
-- `vectors::small` meets its contract.
-- Assumes nothing.
use Rattle.ring.specs.Coefficients.{centred_words}
use mathlib.Core.Path.{ap, ◌∙◌}
use Rattle.vectors.proofs.small.Goals as goal

pub returns : goal.returns
returns c = c.centre.ensures ∙ ap (centred_words c.args.c) c.unpack.ensures

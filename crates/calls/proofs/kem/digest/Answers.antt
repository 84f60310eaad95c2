-- `calls::kem::digest` meets its contract: SHAKE of the coins and a byte 04, as long as the coins.
-- Assumes nothing.
use mathlib.Core.Path.{ap, ◌∙◌}
use Rattle.hash.specs.Shake.{shake}
use Rattle.kindi.specs.Kem.{digest}
use Rattle.calls.proofs.kem.digest.Goals as goal

pub returns : goal.returns
unfolding digest
returns c = c.shake_joined.ensures ∙ ap (shake _ _) c.requires.1

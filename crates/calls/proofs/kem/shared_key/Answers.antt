-- `calls::kem::shared_key` meets its contract: SHAKE of the coins and the ciphertext, as long as the coins.
-- Assumes nothing.
use mathlib.Core.Path.{ap, ◌∙◌}
use Rattle.hash.specs.Shake.{shake}
use Rattle.kindi.specs.Kem.{shared_key}
use Rattle.calls.proofs.kem.shared_key.Goals as goal

pub returns : goal.returns
unfolding shared_key
returns c = c.shake_joined.ensures ∙ ap (shake _ _) c.requires.1

-- `hash::sponge::Sponge::new` meets its contract: by computation.
-- Assumes nothing.
use mathlib.Core.Path.{refl}
use Rattle.hash.specs.Stream.{fresh}
use Rattle.hash.proofs.sponge.Sponge.new.Goals as goal

pub returns : goal.returns
unfolding fresh
returns c = refl

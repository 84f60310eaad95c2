-- `hash::sponge::Sponge::skip_part` meets its contract: within a block only the place moves.
-- Assumes nothing.
use Rattle.hash.proofs.Steps.{part_skipped}
use Rattle.hash.proofs.sponge.Sponge.skip_part.Goals as goal

pub returns : goal.returns
returns c = part_skipped c.args.self c.args.n c.requires

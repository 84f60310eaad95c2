-- `keccak::rounds::rotl` meets its contract: the library's rotation is the definition's.
-- Assumes nothing.
use mathlib.Core.Path.{◌∙◌}
use Rattle.keccak.proofs.Rows.{rotated}
use Rattle.keccak.proofs.rounds.rotl.Goals as goal

pub returns : goal.returns
returns c = c.rotate_left.ensures ∙ rotated c.args.n c.args.v c.requires c.ranges.v.fits

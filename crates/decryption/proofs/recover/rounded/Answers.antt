-- `decryption::recover::rounded` meets its contract.
-- Assumes nothing.
use Rattle.decryption.proofs.Value.{shift_rounds}
use Rattle.decryption.proofs.recover.rounded.Goals as goal

pub returns : goal.returns
returns c = rw (c.from.ensures, c.from-2.ensures) (shift_rounds c.args.k c.args.v c.requires.0 c.power.ensures)

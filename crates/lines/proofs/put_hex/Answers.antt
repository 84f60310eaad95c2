-- `lines::put_hex` meets its contract.
-- Assumes nothing.
use Rattle.lines.proofs.Texts.{written_hex}
use Rattle.lines.proofs.put_hex.Goals as goal

pub returns-clause-written : goal.returns-clause-written
returns-clause-written c = written_hex _ c.args.bytes.now _ c.spell.ensures c.requires

-- `lines::put` meets its contract.
-- Assumes nothing.
use Rattle.lines.proofs.Texts.{written_text}
use Rattle.lines.proofs.put.Goals as goal

pub returns : goal.returns
returns c = written_text _ c.args.text.now _ c.copy_from_slice.ensures.after c.requires

-- `lines::Line::put` meets its contract: the fields one after another are the line.
-- Assumes nothing.
use lib.ListN.{length-append}
use Rattle.lines.proofs.Texts.{written_line}
use Rattle.lines.proofs.Line.put.Goals as goal

pub returns : goal.returns
returns c =
    written_line _ _ _ _ _ (simp length-append) c.put_number-n.ensures.written c.put_kind-n.ensures.written
    c.put_number-n-2.ensures.written c.put_number-n-3.ensures.written c.put_output-n.ensures.written c.put.ensures

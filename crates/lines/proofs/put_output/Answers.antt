-- `lines::put_output` meets its contract.
-- Assumes nothing.
use native.Mathlib.Omega.{arith}
use lib.ListN.{length-append}
use Rattle.lines.proofs.Texts.{written_none, written_output}
use Rattle.lines.proofs.put_output.Goals as goal

pub returns-then-first-second-eq0-clause-written :
    goal.returns-then-first-second-eq0-clause-written
returns-then-first-second-eq0-clause-written c =
    written_none _ (simp length-append c.if-first-second-eq0.true) c.put.ensures

pub returns-clause-written : goal.returns-clause-written
returns-clause-written c =
    written_output _ _ (omega arith) c.put_hex-next.ensures.written c.put_hex.ensures.written

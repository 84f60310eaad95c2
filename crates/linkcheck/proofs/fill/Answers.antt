-- `linkcheck::fill` meets its contract: what is left to read falls with every read, and what was left stays at the front.
-- Assumes nothing.
use mathlib.Core.Path.{sym, ◌∙◌}
use native.Mathlib.Nat.{le_refl}
use native.Mathlib.Omega.{arith}
use Rattle.linkcheck.proofs.Laws.{reading_more, still_hidden, filled}
use Rattle.linkcheck.proofs.fill.Goals as goal

pub returns-then-shows_record : goal.returns-then-shows_record
returns-then-shows_record g c =
    filled (omega arith) (omega arith) c.to_front.ensures (omega arith) c.reads.invariant
    (sym c.if-shows_record.true ∙ c.shows_record.ensures)

pub returns-then-count-eq0 : goal.returns-then-count-eq0
returns-then-count-eq0 g c =
    let hidden = sym c.shows_record.ensures ∙ c.if-shows_record.false in
    filled (omega arith) (omega arith) c.to_front.ensures (omega arith)
    (reading_more c.read.new.buf c.reads.invariant hidden (omega arith) (le_refl _) c.reads.invariant.within)
    (still_hidden c.reads.input c.reads.to c.read.new.buf hidden c.reads.invariant.within)

-- `decryption_calls::padding::ending` meets its contract: after i turns it is known how the first i bytes end.
-- Assumes nothing.
use mathlib.Core.Path.{sym, ap, ◌∙◌}
use native.Mathlib.Numerals.{add-one}
use native.Mathlib.Omega.{arith}
use lib.Dec.{eqb}
use lib.ListN.{get_or}
use lib.Seq.{take_all}
use Rattle.kindi.specs.Decrypt.{ending}
use Rattle.decryption_calls.proofs.Endings.{ending_none, ending_next, place_within}
use Rattle.decryption_calls.proofs.padding.ending.Goals as goal

pub loop-i-init : goal.loop-i-init
loop-i-init c = record { within = omega arith; short = omega arith; ends = ending_none _ }

pub loop-i-preserved : goal.loop-i-preserved
loop-i-preserved c =
    let h = c.loop-i in
    let xs = c.args.c.now in
    let place = c.select-len.ensures in
    record {
      within = omega arith;
      short = rw place (place_within (eqb (get_or xs h.i 0) 0) h.invariant.short);
      ends = rw (add-one, c.select-mark.ensures, place) (ending_next xs h.i h.mark h.len (omega arith) h.invariant.ends);
    }

pub returns : goal.returns
returns c =
    (ap ending (sym (take_all c.loop-i.i c.args.c.now (omega arith))) ∙ c.loop-i.invariant.ends, omega arith)

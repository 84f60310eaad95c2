-- `packing::reader::Cursor::eight` meets its contract: four coefficients and four, and the cursor after their w bytes.
-- Assumes nothing.
use mathlib.Core.Path.{◌≡◌, ap, ◌∙◌}
use native.Mathlib.Omega.{arith}
use lib.ListN.{length, length-take, length-drop}
use Rattle.keccak.proofs.Parts.{both_parts}
use Rattle.packing.proofs.Reading.{second_word, eight_in_turn, length_in_turn}
use Rattle.packing.proofs.reader.Cursor.eight.Goals as goal

pub four-requires : goal.four-requires
four-requires c = (second_word c.requires.0 c.four-second.ensures, simp (length-take, length-drop) (omega arith))

pub returns : goal.returns
returns c =
    let a = c.args in
    let pre = c.requires.0 in
    let first = c.four-second in
    let second = c.four in
    let later = second_word pre first.ensures in
    let front : length first.new.dst ≡ 4 = ap length first.ensures.coefficients ∙ length_in_turn a.w 4 a.src.now a.self in
    rw (both_parts 4 first.new.dst second.new.dst a.dst.now front)
    (eight_in_turn pre.first.within later.within first.ensures second.ensures)

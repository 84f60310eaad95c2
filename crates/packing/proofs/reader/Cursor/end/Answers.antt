-- `packing::reader::Cursor::end` meets its contract: before it, both words lie within the string.
-- Assumes nothing.
use native.Mathlib.Omega.{arith}
use Rattle.packing.proofs.Reading.{second_small, hold_before}
use Rattle.packing.proofs.reader.Cursor.end.Goals as goal

pub overflow_add-second : goal.overflow_add-second
overflow_add-second c =
    let a = c.args in
    let small = second_small a.w a.self.bit c.requires.0 c.requires.1 c.after-second.ensures in
    omega (arith, small.1)

pub overflow_add-second-2 : goal.overflow_add-second-2
overflow_add-second-2 c =
    let a = c.args in
    let small = second_small a.w a.self.bit c.requires.0 c.requires.1 c.after-second.ensures in
    omega (arith, small.0)

pub returns : goal.returns
returns c =
    let a = c.args in
    rw c.saturating_sub.ensures
    (hold_before a.w a.self.bit a.len c.requires.0 c.requires.1 c.after-second.ensures (omega arith) (omega arith))

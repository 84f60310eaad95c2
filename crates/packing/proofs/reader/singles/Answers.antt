-- `packing::reader::singles` meets its contract: the masks keep a digit of either half, and the factor moves both second ones.
-- Assumes nothing.
use mathlib.Core.Path.{ap₂, ◌∙◌}
use Prim.Native.Nat.{◌+◌, ◌/◌, ◌%◌, ◌^◌}
use native.Mathlib.Omega.{arith}
use Rattle.bits.proofs.Words.{digit_below}
use Rattle.packing.proofs.Spreading.{both_kept, second_moved}
use Rattle.packing.proofs.reader.singles.Goals as goal

pub overflow_mul-result : goal.overflow_mul-result
overflow_mul-result c =
    let a = c.args in
    rw (second_moved a.w a.x (omega arith))
    (omega (
      arith,
      digit_below a.w (a.x / 2 ^ 32 / 2 ^ a.w) (omega arith),
      digit_below a.w (a.x % 2 ^ 32 / 2 ^ a.w) (omega arith),
    ))

pub overflow_add-result : goal.overflow_add-result
overflow_add-result c =
    let a = c.args in
    rw (both_kept a.w a.x (omega arith), second_moved a.w a.x (omega arith))
    (omega (
      arith,
      digit_below a.w (a.x / 2 ^ 32) (omega arith),
      digit_below a.w (a.x % 2 ^ 32) (omega arith),
      digit_below a.w (a.x / 2 ^ 32 / 2 ^ a.w) (omega arith),
      digit_below a.w (a.x % 2 ^ 32 / 2 ^ a.w) (omega arith),
    ))

pub returns : goal.returns
returns c =
    let a = c.args in
    ap₂ ◌+◌ (both_kept a.w a.x (omega arith)) (second_moved a.w a.x (omega arith)) ∙ omega arith

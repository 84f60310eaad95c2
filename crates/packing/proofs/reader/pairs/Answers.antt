-- `packing::reader::pairs` meets its contract: one mask keeps the first digit, the other the second, which the factor moves.
-- Assumes nothing.
use mathlib.Core.Path.{ap₂}
use Prim.Native.Nat.{◌+◌, ◌*◌, ◌/◌, ◌^◌}
use native.Mathlib.Omega.{arith}
use Rattle.bits.proofs.Words.{mask_keeps}
use Rattle.packing.proofs.Spreading.{pair_moved, pair_below}
use Rattle.packing.proofs.reader.pairs.Goals as goal

pub overflow_mul-result : goal.overflow_mul-result
overflow_mul-result c =
    let a = c.args in
    rw (pair_moved a.w a.x (omega arith)) (omega (arith, pair_below a.w (a.x / 2 ^ (2 * a.w)) (omega arith)))

pub overflow_add-result : goal.overflow_add-result
overflow_add-result c =
    let a = c.args in
    rw (mask_keeps 64 (2 * a.w) a.x (omega arith), pair_moved a.w a.x (omega arith))
    (omega (arith, pair_below a.w a.x (omega arith), pair_below a.w (a.x / 2 ^ (2 * a.w)) (omega arith)))

pub returns : goal.returns
returns c =
    let a = c.args in
    ap₂ ◌+◌ (mask_keeps 64 (2 * a.w) a.x (omega arith)) (pair_moved a.w a.x (omega arith))

-- `recipients::each::times` meets its contract: a number of 32 bits times such a length is far below 2^64.
-- Assumes nothing.
use Prim.Native.Nat.{◌≤◌}
use native.Mathlib.Nat.{mul-le-mul}
use native.Mathlib.Omega.{arith}
use Rattle.recipients.proofs.each.times.Goals as goal

pub overflow_mul-result : goal.overflow_mul-result
overflow_mul-result c =
    let few : c.args.count ≤ 4294967295 = omega arith in
    omega (arith, mul-le-mul few c.requires)

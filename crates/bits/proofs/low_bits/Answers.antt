-- `bits::low_bits` meets its contract: the mask keeps the low bits.
-- Assumes nothing.
use native.Mathlib.Omega.{arith}
use Rattle.bits.proofs.Words.{mask_keeps, digit_below}
use Rattle.bits.proofs.low_bits.Goals as goal

pub overflow_cast-result : goal.overflow_cast-result
overflow_cast-result c =
    omega (arith, mask_keeps 32 c.args.w c.args.c (omega arith), digit_below c.args.w c.args.c c.requires)

pub returns : goal.returns
returns c = mask_keeps 32 c.args.w c.args.c (omega arith)

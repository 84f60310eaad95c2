-- `packing::upper` meets its contract: the two parts stand beside each other.
-- Assumes nothing.
use native.Mathlib.Omega.{arith}
use Rattle.packing.proofs.Packing.{upper_is, upper_fits}
use Rattle.packing.proofs.upper.Goals as goal

pub overflow_add-result : goal.overflow_add-result
overflow_add-result c =
    let a = c.args in
    rw (upper_is a.w a.low a.high c.requires.0 c.requires.2) (omega (arith, upper_fits a.w a.low a.high c.requires.0 c.requires.1 c.requires.2))

pub returns : goal.returns
returns c = upper_is c.args.w c.args.low c.args.high c.requires.0 c.requires.2

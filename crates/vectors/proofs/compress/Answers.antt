-- `vectors::compress` meets its contract: the coefficients before x have lost their low bits.
-- Assumes nothing.
use native.Mathlib.Omega.{arith}
use Rattle.kindi.specs.Keys.{compress}
use Rattle.vectors.proofs.Mapping.{mapped_more}
use Rattle.vectors.proofs.compress.Goals as goal

pub loop-x-preserved : goal.loop-x-preserved
loop-x-preserved c = mapped_more (compress c.args.t) _ _ _ (omega arith) c.loop-x.auto.xs c.loop-x.invariant

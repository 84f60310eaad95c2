-- `product::halves::fold` meets its contract: after k turns the first k entries are written.
-- Assumes nothing.
use native.Mathlib.Omega.{arith}
use Rattle.bits.proofs.Filling.{filling_more}
use Rattle.product.proofs.halves.fold.Goals as goal

pub loop-k-preserved : goal.loop-k-preserved
loop-k-preserved c = filling_more 0 c.loop-k.invariant (omega arith) c.sum.ensures

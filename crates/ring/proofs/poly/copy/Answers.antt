-- `ring::poly::copy` meets its contract: after k turns the first k coefficients are copied.
-- Assumes nothing.
use mathlib.Core.Path.{refl, ◌∙◌}
use native.Mathlib.Omega.{arith}
use Rattle.bits.proofs.Filling.{tabulate_entries, filling_more, filling_all}
use Rattle.ring.proofs.poly.copy.Goals as goal

pub loop-k-preserved : goal.loop-k-preserved
loop-k-preserved c = filling_more 0 c.loop-k.invariant (omega arith) refl

pub returns : goal.returns
returns c = filling_all c.loop-k.invariant (omega arith) (omega arith) ∙ tabulate_entries c.args.src.now 0

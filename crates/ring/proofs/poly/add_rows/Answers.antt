-- `ring::poly::add_rows` meets its contract: after k turns the first k coefficients have their four terms.
-- Assumes nothing.
use mathlib.Core.Path.{◌∙◌}
use native.Mathlib.Omega.{arith}
use Rattle.ring.specs.Terms.{add_four}
use Rattle.bits.proofs.Filling.{filling_more, filling_at}
use Rattle.ring.proofs.poly.add_rows.Goals as goal

pub loop-k-preserved : goal.loop-k-preserved
unfolding add_four
loop-k-preserved c =
    filling_more 0 c.loop-k.invariant (omega arith)
    (c.add_term-in-loop-k-2.ensures
    ∙ rw (c.add_term-in-loop-k.ensures, c.add_term-two.ensures, c.add_term.ensures, filling_at 0 c.loop-k.invariant {j = c.loop-k.k} (omega arith)))

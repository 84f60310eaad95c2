-- `product::rows::add_column` meets its contract: after k turns the first k coefficients have their term.
-- Assumes nothing.
use mathlib.Core.Path.{ap, ◌∙◌}
use Prim.Native.Nat.{ℕ}
use native.Mathlib.Omega.{arith}
use lib.ListN.{get_or}
use Rattle.bits.proofs.Filling.{filling_more, filling_at}
use Rattle.ring.specs.Terms.{add_term}
use Rattle.product.proofs.rows.add_column.Goals as goal

pub loop-k-preserved : goal.loop-k-preserved
loop-k-preserved c =
    let a = c.args in
    filling_more 0 c.loop-k.invariant (omega arith)
    (c.add_term.ensures ∙ ap (λ (m : ℕ). add_term m a.a (get_or a.row.now c.loop-k.k 0)) (filling_at 0 c.loop-k.invariant (omega arith)))

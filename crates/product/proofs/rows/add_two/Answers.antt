-- `product::rows::add_two` meets its contract: after k turns the first k coefficients have their terms.
-- Assumes nothing.
use mathlib.Core.Path.{ap, ◌∙◌}
use Prim.Native.Nat.{ℕ, ◌+◌}
use native.Mathlib.Omega.{arith}
use lib.ListN.{get_or}
use Rattle.bits.proofs.Filling.{filling_more, filling_at}
use Rattle.ring.specs.Terms.{add_term}
use Rattle.product.proofs.rows.add_two.Goals as goal

pub loop-k-preserved : goal.loop-k-preserved
loop-k-preserved c =
    let a = c.args in
    let k = c.loop-k.k in
    filling_more 0 c.loop-k.invariant (omega arith)
    (c.add_term-in-loop-k.ensures
    ∙ ap (λ (m : ℕ). add_term m a.b (get_or a.row.now k 0))
    (c.add_term.ensures ∙ ap (λ (m : ℕ). add_term m a.a (get_or a.row.now (k + 1) 0)) (filling_at 0 c.loop-k.invariant (omega arith))))

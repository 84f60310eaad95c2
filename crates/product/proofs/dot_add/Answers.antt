-- `product::dot_add` meets its contract: after i turns the first i products are added.
-- Assumes nothing.
use mathlib.Core.Path.{refl, ◌∙◌}
use Rattle.product.proofs.Dots.{dot_none, dot_turn}
use Rattle.product.proofs.dot_add.Goals as goal

pub loop-i-init : goal.loop-i-init
loop-i-init c =
    record { long = refl; are = dot_none c.args.acc.now c.args.f.now c.args.s.now (λ i. (c.type_inv.acc i).fits) }

pub loop-i-preserved : goal.loop-i-preserved
loop-i-preserved c =
    let a = c.args in
    let h = c.loop-i in
    record {
      long = c.multiply_add.auto.acc ∙ h.invariant.long;
      are = dot_turn h.i a.acc.now h.acc _ a.f.now a.s.now h.invariant.long h.invariant.are c.multiply_add.ensures;
    }

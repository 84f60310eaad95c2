-- `signed::dot` meets its contract: after the blocks one product a turn is added.
-- Assumes nothing.
use mathlib.Core.Path.{◌≡◌, ap, ◌∙◌}
use Prim.Native.Nat.{ℕ}
use native.Mathlib.Omega.{arith}
use lib.ListN.{length}
use mir.Syntax.{w32}
use mir.ValLaws.{to_z-of_z}
use Rattle.ring.specs.Poly.{sum}
use Rattle.ring.specs.Terms.{terms}
use Rattle.signed.proofs.Summing.{sum_fits, sum_more, one_term}
use Rattle.signed.proofs.dot.Goals as goal

pub loop-i-init : goal.loop-i-init
loop-i-init c =
    record {
      within = omega arith;
      summed = to_z-of_z w32 c.dot_blocks-total.result (record { sfits = c.dot_blocks-total.type_inv }) ∙ c.dot_blocks-total.ensures;
    }

pub overflow_add-total : goal.overflow_add-total
overflow_add-total c =
    sum_fits c.args.a.now c.args.b.now c.requires c.loop-i.invariant.within c.loop-i.invariant.summed 1 (omega arith)
    (record { sfits = c.times-total.type_inv })
    (one_term c.args.a.now c.args.b.now c.loop-i.i (record { sfits = omega arith }) (record { sfits = omega arith }) c.times-total.ensures)

pub loop-i-preserved : goal.loop-i-preserved
loop-i-preserved c =
    record {
      within = omega arith;
      summed =
          sum_more c.args.a.now c.args.b.now c.requires c.loop-i.invariant.within c.loop-i.invariant.summed 1
          (omega arith) (record { sfits = c.times-total.type_inv })
          (one_term c.args.a.now c.args.b.now c.loop-i.i (record { sfits = omega arith }) (record { sfits = omega arith }) c.times-total.ensures);
    }

pub returns : goal.returns
returns c =
    let all : c.loop-i.i ≡ length c.args.a.now = omega arith in
    c.loop-i.invariant.summed ∙ ap (λ (n : ℕ). sum n (terms c.args.a.now c.args.b.now)) all

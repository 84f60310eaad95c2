-- `signed::dot_blocks` meets its contract: after each turn the products up to i are added.
-- Assumes nothing.
use mathlib.Core.Path.{◌≡◌, refl, ap, ◌∙◌}
use Prim.Native.Nat.{ℕ, ◌+◌, ◌*◌, ◌/◌}
use native.Mathlib.Omega.{arith}
use lib.ListN.{length}
use Rattle.ring.specs.Poly.{sum}
use Rattle.ring.specs.Terms.{terms}
use Rattle.signed.proofs.Summing.{sum_fits, sum_more}
use Rattle.signed.proofs.dot_blocks.Goals as goal

pub loop-i-init : goal.loop-i-init
unfolding sum
loop-i-init c = record { within = omega arith; summed = refl; whole = omega arith }

pub overflow_add-total : goal.overflow_add-total
overflow_add-total c =
    sum_fits c.args.a.now c.args.b.now c.requires c.loop-i.invariant.within c.loop-i.invariant.summed 32 (omega arith)
    (record { sfits = c.thirty_two-total.type_inv })
    c.thirty_two-total.ensures

pub loop-i-preserved : goal.loop-i-preserved
loop-i-preserved c =
    record {
      within = omega arith;
      summed =
          sum_more c.args.a.now c.args.b.now c.requires c.loop-i.invariant.within c.loop-i.invariant.summed 32
          (omega arith) (record { sfits = c.thirty_two-total.type_inv })
          c.thirty_two-total.ensures;
      whole = omega arith;
    }

pub returns : goal.returns
returns c =
    let all : c.loop-i.i ≡ length c.args.a.now / 32 * 32 = omega arith in
    c.loop-i.invariant.summed ∙ ap (λ (n : ℕ). sum n (terms c.args.a.now c.args.b.now)) all

pub returns-2 : goal.returns-2
returns-2 c =
    let all : c.loop-i.i + 32 ≡ length c.args.a.now / 32 * 32 = omega arith in
    sum_more c.args.a.now c.args.b.now c.requires c.loop-i.invariant.within c.loop-i.invariant.summed 32
    (omega arith) (record { sfits = c.thirty_two-total.type_inv })
    c.thirty_two-total.ensures
    ∙ ap (λ (n : ℕ). sum n (terms c.args.a.now c.args.b.now)) all

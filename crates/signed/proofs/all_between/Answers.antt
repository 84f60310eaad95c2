-- `signed::all_between` meets its contract: after i turns it is known whether the first i numbers lie between.
-- Assumes nothing.
use mathlib.Core.Bool.{Bool, ◌&&◌}
use mathlib.Core.Path.{◌≡◌, refl, sym, ap, ◌∙◌}
use native.Mathlib.Numerals.{add-one}
use native.Mathlib.Omega.{arith}
use lib.IntN.{pos}
use lib.ListN.{get_or}
use mir.Syntax.{w32}
use mir.Val.{to_z, of_z}
use mir.ValLaws.{to_z-of_z}
use Rattle.ring.proofs.Sizes.{all_more}
use Rattle.ring.specs.Integers.{between, all_between}
use Rattle.keccak.proofs.Loops.{carried_list}
use Rattle.signed.proofs.all_between.Goals as goal

pub loop-x-init : goal.loop-x-init
unfolding all_between
loop-x-init c = record { within = omega arith; is = refl }

pub loop-x-preserved : goal.loop-x-preserved
loop-x-preserved c =
    let a = c.args in
    let low = to_z w32 (of_z w32 a.low) in
    let high = to_z w32 (of_z w32 a.high) in
    let x = get_or a.xs.now c.loop-x.x-index (pos 0) in
    let same : to_z w32 (of_z w32 x) ≡ x = to_z-of_z w32 x (record { sfits = omega arith }) in
    record {
      within = omega arith;
      is =
          rw (add-one, same)
          (ap (λ (t : Bool). t && between low high x) c.loop-x.invariant.is
          ∙ sym (all_more low high a.xs.now c.loop-x.x-index (pos 0) (omega arith)));
    }

pub returns : goal.returns
returns c =
    let a = c.args in
    carried_list a.xs.now (all_between (to_z w32 (of_z w32 a.low)) (to_z w32 (of_z w32 a.high))) c.loop-x.invariant (omega arith)
    ∙ rw (to_z-of_z w32 a.low c.ranges.low, to_z-of_z w32 a.high c.ranges.high)

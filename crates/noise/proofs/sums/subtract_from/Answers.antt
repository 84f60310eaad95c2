-- `noise::sums::subtract_from` meets its contract: the coefficients before k are subtracted.
-- Assumes nothing.
use mathlib.Core.Path.{◌≡◌, refl, ap₂, ◌∙◌}
use native.Mathlib.Omega.{arith}
use lib.IntN.{pos, ◌-ℤ◌}
use lib.ListN.{get_or}
use mir.Syntax.{w16, w32}
use mir.Val.{to_z, of_z}
use mir.ValLaws.{to_z-of_z}
use Rattle.bits.proofs.Filling.{filling_begun, filling_more, filling_at, filling_all}
use Rattle.ring.specs.Poly.{of_ints}
use Rattle.ring.proofs.Sizes.{le-largest}
use Rattle.noise.proofs.sums.subtract_from.Goals as goal

pub loop-k-init : goal.loop-k-init
loop-k-init c = filling_begun

pub less-requires : goal.less-requires
less-requires c =
    let h = c.loop-k in
    let a = c.args in
    let x = get_or a.x.now h.k (pos 0) in
    let y = get_or h.acc h.k (pos 0) in
    let sx : to_z w16 (of_z w16 x) ≡ x = to_z-of_z w16 x (record { sfits = omega arith }) in
    let sy : to_z w32 (of_z w32 y) ≡ y = to_z-of_z w32 y (record { sfits = omega arith }) in
    let there : y ≡ of_ints a.acc.now h.k = filling_at (pos 0) h.invariant (omega arith) in
    rw (sx, sy, there) (omega (arith, le-largest a.x.now h.k, le-largest a.acc.now h.k, c.requires.1))

pub loop-k-preserved : goal.loop-k-preserved
loop-k-preserved c =
    let h = c.loop-k in
    let a = c.args in
    let x = get_or a.x.now h.k (pos 0) in
    let y = get_or h.acc h.k (pos 0) in
    let sx : to_z w16 (of_z w16 x) ≡ x = to_z-of_z w16 x (record { sfits = omega arith }) in
    let sy : to_z w32 (of_z w32 y) ≡ y = to_z-of_z w32 y (record { sfits = omega arith }) in
    let there : y ≡ of_ints a.acc.now h.k = filling_at (pos 0) h.invariant (omega arith) in
    filling_more (pos 0) h.invariant (omega arith)
    (to_z-of_z w32 c.less.result (record { sfits = c.less.type_inv }) ∙ c.less.ensures ∙ ap₂ ◌-ℤ◌ sx (sy ∙ there))

pub returns : goal.returns
returns c = filling_all c.loop-k.invariant refl (omega arith)

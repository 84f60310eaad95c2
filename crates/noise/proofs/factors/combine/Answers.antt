-- `noise::factors::combine` meets its contract: the coefficients of X before k are there.
-- Assumes nothing.
use mathlib.Core.Path.{ap, ◌∙◌}
use Prim.Native.Nat.{ℕ}
use native.Mathlib.Omega.{arith}
use lib.IntN.{pos, ◌+ℤ◌, ◌-ℤ◌}
use lib.ListN.{length, get_or}
use mir.Syntax.{w16}
use mir.ValLaws.{to_z-of_z}
use Rattle.bits.proofs.Filling.{filling_begun, filling_more, filling_all}
use Rattle.ring.specs.Integers.{centred}
use Rattle.noise.specs.Terms.{combined}
use Rattle.noise.proofs.factors.combine.Goals as goal

pub loop-k-init : goal.loop-k-init
loop-k-init c = filling_begun

pub loop-k-preserved : goal.loop-k-preserved
loop-k-preserved c =
    let h = c.loop-k in
    let a = c.args in
    let w = a.w.now in
    let r = a.r.now in
    let low = a.low.now in
    filling_more (pos 0) h.invariant (omega arith)
    (to_z-of_z w16 c.key_noise_at.result (record { sfits = c.key_noise_at.type_inv }) ∙ c.key_noise_at.ensures
    ∙ ap (λ (m : ℕ). (centred m (get_or w h.k 0) +ℤ centred a.p.p (get_or r h.k 0)) -ℤ pos (get_or low h.k 0)) c.power-half.ensures)

pub returns : goal.returns
unfolding combined
returns c =
    let pre = c.requires in
    filling_all {n = length c.args.w.now} c.loop-k.invariant (omega (arith, pre.first)) (omega (arith, pre.first))

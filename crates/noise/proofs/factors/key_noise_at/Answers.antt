-- `noise::factors::key_noise_at` meets its contract: each step fits.
-- Assumes nothing.
use mathlib.Core.Path.{◌≡◌}
use Prim.Native.Nat.{ℕ, ◌<◌}
use native.Mathlib.Omega.{arith}
use lib.IntN.{pos}
use mir.Syntax.{w16}
use mir.Val.{SFits, to_z}
use mir.ValLaws.{to_z-of_z, to_z_pos}
use Rattle.ring.specs.Integers.{centred}
use Rattle.ring.proofs.Sizes.{difference_fits}
use Rattle.noise.proofs.Bounds.{sum_fits, noise_fits}
use Rattle.noise.proofs.factors.key_noise_at.Goals as goal

-- The numbers are read as they are.
plain : (n : ℕ) → n < 4096 → to_z w16 n ≡ pos n
plain n h = to_z_pos w16 n (omega arith)

pub overflow_sub-result : goal.overflow_sub-result
overflow_sub-result c =
    let first : SFits w16 (centred c.args.half c.args.w) =
    difference_fits {x = c.args.w} {y = c.args.half} (omega (arith, c.requires.0)) (omega (arith, c.requires.1)) in
    rw (plain c.args.w c.requires.0, plain c.args.half c.requires.1) first

pub overflow_sub-result-2 : goal.overflow_sub-result-2
overflow_sub-result-2 c =
    let second : SFits w16 (centred c.args.p c.args.r) =
    difference_fits {x = c.args.r} {y = c.args.p} (omega (arith, c.requires.2)) (omega (arith, c.requires.3)) in
    rw (plain c.args.r c.requires.2, plain c.args.p c.requires.3) second

pub overflow_add-result : goal.overflow_add-result
overflow_add-result c =
    let first : SFits w16 (centred c.args.half c.args.w) =
    difference_fits {x = c.args.w} {y = c.args.half} (omega (arith, c.requires.0)) (omega (arith, c.requires.1)) in
    let second : SFits w16 (centred c.args.p c.args.r) =
    difference_fits {x = c.args.r} {y = c.args.p} (omega (arith, c.requires.2)) (omega (arith, c.requires.3)) in
    let h = c.requires in
    rw (
      plain c.args.w h.0,
      plain c.args.half h.1,
      plain c.args.r h.2,
      plain c.args.p h.3,
      to_z-of_z w16 _ first,
      to_z-of_z w16 _ second,
    )
    (sum_fits h.1 h.0 h.3 h.2)

pub overflow_sub-result-3 : goal.overflow_sub-result-3
overflow_sub-result-3 c =
    let first : SFits w16 (centred c.args.half c.args.w) =
    difference_fits {x = c.args.w} {y = c.args.half} (omega (arith, c.requires.0)) (omega (arith, c.requires.1)) in
    let second : SFits w16 (centred c.args.p c.args.r) =
    difference_fits {x = c.args.r} {y = c.args.p} (omega (arith, c.requires.2)) (omega (arith, c.requires.3)) in
    let h = c.requires in
    rw (
      plain c.args.w h.0,
      plain c.args.half h.1,
      plain c.args.r h.2,
      plain c.args.p h.3,
      plain c.args.low h.4,
      to_z-of_z w16 _ first,
      to_z-of_z w16 _ second,
      to_z-of_z w16 _ (sum_fits h.1 h.0 h.3 h.2),
    )
    (noise_fits h.1 h.0 h.3 h.2 h.4)

pub returns : goal.returns
returns c =
    let first : SFits w16 (centred c.args.half c.args.w) =
    difference_fits {x = c.args.w} {y = c.args.half} (omega (arith, c.requires.0)) (omega (arith, c.requires.1)) in
    let second : SFits w16 (centred c.args.p c.args.r) =
    difference_fits {x = c.args.r} {y = c.args.p} (omega (arith, c.requires.2)) (omega (arith, c.requires.3)) in
    let h = c.requires in
    rw (
      plain c.args.w h.0,
      plain c.args.half h.1,
      plain c.args.r h.2,
      plain c.args.p h.3,
      plain c.args.low h.4,
      to_z-of_z w16 _ first,
      to_z-of_z w16 _ second,
      to_z-of_z w16 _ (sum_fits h.1 h.0 h.3 h.2),
    )
    (to_z-of_z w16 _ (noise_fits h.1 h.0 h.3 h.2 h.4))

-- `hash::sponge::Sponge::squeeze` meets its contract: after each turn the output up to `done` is what the sponge gives first, and
-- the sponge has advanced by as much.
-- Assumes nothing.
use native.Mathlib.Omega.{arith}
use lib.ListN.{length-take, length-drop}
use Rattle.hash.proofs.Steps.{is_ready_as, squeezing_begun, squeezing_more}
use Rattle.hash.proofs.sponge.Sponge.squeeze.Goals as goal

pub loop-done-init : goal.loop-done-init
loop-done-init c = squeezing_begun _ _ c.requires

pub overflow_sub-t : goal.overflow_sub-t
overflow_sub-t c =
    let t = is_ready_as _ _ c.loop-done.invariant.sound c.ready-t.ensures in
    omega (arith, t)

pub squeeze_part-s-requires : goal.squeeze_part-s-requires
squeeze_part-s-requires c =
    let t = is_ready_as _ _ c.loop-done.invariant.sound c.ready-t.ensures in
    simp (length-take, length-drop) (omega (arith, t))

pub loop-done-smaller : goal.loop-done-smaller
loop-done-smaller c =
    let t = is_ready_as _ _ c.loop-done.invariant.sound c.ready-t.ensures in
    omega (arith, t)

pub loop-done-preserved : goal.loop-done-preserved
loop-done-preserved c =
    let t = is_ready_as _ _ c.loop-done.invariant.sound c.ready-t.ensures in
    squeezing_more c.loop-done.invariant c.min-k.result c.ready-t.ensures (omega (arith, t)) (omega arith)
    c.squeeze_part-s.ensures

-- `hash::sponge::Sponge::skip` meets its contract: with what is left the sponge will have advanced by all n bytes.
-- Assumes nothing.
use native.Mathlib.Omega.{arith}
use Rattle.hash.proofs.Steps.{is_ready_as, skipping_more, skipping_all}
use Rattle.hash.proofs.sponge.Sponge.skip.Goals as goal

pub overflow_sub-t : goal.overflow_sub-t
overflow_sub-t c =
    let t = is_ready_as _ _ c.loop-left.invariant.sound c.ready-t.ensures in
    omega (arith, t)

pub skip_part-s-requires : goal.skip_part-s-requires
skip_part-s-requires c =
    let t = is_ready_as _ _ c.loop-left.invariant.sound c.ready-t.ensures in
    omega (arith, t)

pub loop-left-smaller : goal.loop-left-smaller
loop-left-smaller c =
    let t = is_ready_as _ _ c.loop-left.invariant.sound c.ready-t.ensures in
    omega (arith, t)

pub loop-left-preserved : goal.loop-left-preserved
loop-left-preserved c =
    let t = is_ready_as _ _ c.loop-left.invariant.sound c.ready-t.ensures in
    skipping_more c.loop-left.invariant c.min-k.result c.ready-t.ensures (omega (arith, t)) (omega arith)
    c.skip_part-s.ensures

pub returns : goal.returns
returns c = skipping_all c.loop-left.invariant (omega arith)

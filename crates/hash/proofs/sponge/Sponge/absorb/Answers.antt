-- `hash::sponge::Sponge::absorb` meets its contract: after each turn the sponge has absorbed what stands before the rest.
-- Assumes nothing.
use mathlib.Core.Path.{sym, ap₂, ◌∙◌}
use mathlib.Core.List.{◌++◌}
use Prim.Native.Nat.{◌<◌}
use native.Mathlib.Omega.{arith}
use lib.ListN.{length, take-append-drop}
use Rattle.std.proofs.lemmas.Bool.Decides.{nat_tests}
use Rattle.hash.proofs.Steps.{is_ready_as, absorbing_begun, absorbing_sound, absorbing_more, absorbing_all}
use Rattle.hash.proofs.sponge.Sponge.absorb.Goals as goal

pub loop-rest-init : goal.loop-rest-init
loop-rest-init c = absorbing_begun _ _ c.requires

pub overflow_sub-t : goal.overflow_sub-t
overflow_sub-t c =
    let t = is_ready_as _ _ (absorbing_sound c.loop-rest.invariant) c.ready-t.ensures in
    omega (arith, t)

pub absorb_part-s-requires : goal.absorb_part-s-requires
absorb_part-s-requires c =
    let t = is_ready_as _ _ (absorbing_sound c.loop-rest.invariant) c.ready-t.ensures in
    omega (arith, t)

pub loop-rest-smaller : goal.loop-rest-smaller
loop-rest-smaller c =
    let t = is_ready_as _ _ (absorbing_sound c.loop-rest.invariant) c.ready-t.ensures in
    let some : 0 < length c.loop-rest.rest.now = grind (arith, nat_tests) in
    omega (arith, t)

pub loop-rest-preserved : goal.loop-rest-preserved
loop-rest-preserved c =
    let t = is_ready_as _ _ (absorbing_sound c.loop-rest.invariant) c.ready-t.ensures in
    let rest = c.loop-rest.rest.now in
    let some : 0 < length rest = grind (arith, nat_tests) in
    let split = c.split_at.ensures in
    absorbing_more c.loop-rest.invariant _ _ c.ready-t.ensures (omega (arith, t))
    (sym (ap₂ ◌++◌ split.front split.back ∙ take-append-drop c.min.result rest)) c.absorb_part-s.ensures

pub returns : goal.returns
returns c = absorbing_all c.loop-rest.invariant (grind (arith, nat_tests))

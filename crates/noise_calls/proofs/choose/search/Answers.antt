-- `noise_calls::choose::search` meets its contract: after i turns it is known of the first i coins whether some are clear, and
-- the stream of γ is still there.
-- Assumes nothing.
use mathlib.Core.Path.{refl, ◌∙◌}
use Prim.Native.Nat.{◌+◌, ◌*◌, ◌≤◌}
use native.Mathlib.Omega.{arith}
use lib.ListN.{length}
use Rattle.noise_calls.proofs.Places.{search_starts, search_goes_on, search_ends, search_count, search_done, coins_there, search_room}
use Rattle.noise_calls.proofs.choose.search.Goals as goal

pub nonzero_div-count : goal.nonzero_div-count
nonzero_div-count c =
    let well = c.requires.key.well in
    omega (arith, well.coin_bits, well.some_coefficients)

pub loop-i-init : goal.loop-i-init
loop-i-init c =
    record { room = c.requires; long = refl; kept = c.requires.stream_kept; so_far = search_starts _ _ _ _ }

pub overflow_cast-i : goal.overflow_cast-i
overflow_cast-i c = omega (arith, c.loop-i.invariant.so_far.within, search_count c.loop-i.invariant.room)

pub overflow_add-at : goal.overflow_add-at
overflow_add-at c =
    let there : c.loop-i.i * c.args.p.coins + c.args.p.coins ≤ length c.args.list.now =
    coins_there c.loop-i.invariant.so_far c.loop-i-test.true in
    omega (arith, there)

pub slice_bounds-measure-count : goal.slice_bounds-measure-count
slice_bounds-measure-count c =
    let there : c.loop-i.i * c.args.p.coins + c.args.p.coins ≤ length c.args.list.now =
    coins_there c.loop-i.invariant.so_far c.loop-i-test.true in
    omega (arith, there)

pub slice_bounds-measure-start : goal.slice_bounds-measure-start
slice_bounds-measure-start c =
    let there : c.loop-i.i * c.args.p.coins + c.args.p.coins ≤ length c.args.list.now =
    coins_there c.loop-i.invariant.so_far c.loop-i-test.true in
    omega (arith, there)

pub slice_bounds-measure-end : goal.slice_bounds-measure-end
slice_bounds-measure-end c =
    let there : c.loop-i.i * c.args.p.coins + c.args.p.coins ≤ length c.args.list.now =
    coins_there c.loop-i.invariant.so_far c.loop-i-test.true in
    omega (arith, there)

pub measure-measured-requires : goal.measure-measured-requires
measure-measured-requires c =
    let there : c.loop-i.i * c.args.p.coins + c.args.p.coins ≤ length c.args.list.now =
    coins_there c.loop-i.invariant.so_far c.loop-i-test.true in
    search_room _ c.loop-i.invariant.room there c.loop-i.invariant.long c.loop-i.invariant.kept

pub overflow_mul-at : goal.overflow_mul-at
overflow_mul-at c =
    let there : c.loop-i.i * c.args.p.coins + c.args.p.coins ≤ length c.args.list.now =
    coins_there c.loop-i.invariant.so_far c.loop-i-test.true in
    omega (arith, there)

pub loop-i-preserved : goal.loop-i-preserved
loop-i-preserved c =
    let h = c.loop-i.invariant in
    record {
      room = h.room;
      long = c.measure-measured.auto.work ∙ h.long;
      kept = c.measure-measured.ensures.2;
      so_far = search_goes_on h.so_far c.loop-i-test.true c.measure-measured.ensures.0 c.select-place.ensures;
    }

pub returns : goal.returns
returns c = rw c.then_some.ensures (search_done c.loop-i.found (search_ends c.loop-i.invariant.so_far (omega arith)))

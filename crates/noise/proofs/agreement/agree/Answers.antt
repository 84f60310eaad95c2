-- `noise::agreement::agree` meets its contract: the polynomials before i are compared.
-- Assumes nothing.
use mathlib.Core.Path.{◌∙◌}
use native.Mathlib.Omega.{arith}
use Rattle.vectors.proofs.Amounts.{within, part_length}
use Rattle.noise.proofs.Agreeing.{compared_none, next_placed, compared_more, compared_all}
use Rattle.noise.proofs.agreement.agree.Goals as goal

pub loop-i-init : goal.loop-i-init
loop-i-init c = compared_none _ _ _ _

pub overflow_mul-at : goal.overflow_mul-at
overflow_mul-at c =
    let there = next_placed c.requires c.loop-i.invariant (omega arith) in
    omega (arith, there.fits, there.short)

pub overflow_add-at : goal.overflow_add-at
overflow_add-at c =
    let there = next_placed c.requires c.loop-i.invariant (omega arith) in
    omega (arith, there.fits, there.short)

pub slice_bounds-polynomial_agrees-end : goal.slice_bounds-polynomial_agrees-end
slice_bounds-polynomial_agrees-end c = omega (arith, (next_placed c.requires c.loop-i.invariant (omega arith)).fits)

pub polynomial_agrees-agrees-requires : goal.polynomial_agrees-agrees-requires
polynomial_agrees-agrees-requires c =
    let room = c.requires in
    let p = c.args.p in (
      record {
        well = room.well;
        narrow = room.well.word;
        few = omega (arith, room.well.few);
        there = rw room.value_long (within p p.k (omega arith));
        room_is = omega (arith, room.values_are);
      },
      part_length _ _ c.args.stored.now (next_placed room c.loop-i.invariant (omega arith)).fits ∙ room.bytes_are,
      omega (arith, room.bytes_are),
    )

pub loop-i-preserved : goal.loop-i-preserved
loop-i-preserved c = compared_more c.requires c.loop-i.invariant (omega arith) c.polynomial_agrees-agrees.ensures

pub returns : goal.returns
returns c = compared_all c.requires c.loop-i.invariant (omega arith)

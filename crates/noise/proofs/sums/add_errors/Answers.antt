-- `noise::sums::add_errors` meets its contract: before turn j the products before it are added.
-- Assumes nothing.
use mathlib.Core.Path.{◌∙◌}
use Prim.Native.Nat.{◌<◌}
use native.Mathlib.Omega.{arith}
use Rattle.kindi.specs.Params.{width}
use Rattle.kindi.specs.Streams.{small_in}
use Rattle.vectors.proofs.Amounts.{width_bound, within}
use Rattle.noise.proofs.Products.{partial_none, partial_more, summable}
use Rattle.noise.proofs.Bounds.{noise_most, small_sized, error_sized, product_most}
use Rattle.noise.proofs.sums.add_errors.Goals as goal

pub loop-j-init : goal.loop-j-init
loop-j-init c = partial_none c.args.p.n c.args.acc.now _ _ c.requires.0.sum

pub small-requires : goal.small-requires
small-requires c =
    let p = c.args.p in
    let pre = c.requires in
    let W = pre.0.well in
    let turn : c.loop-j.j < p.l = omega arith in
    record {
      well = W;
      narrow = width_bound p W;
      few = omega (arith, W.few);
      there = rw pre.1.masked_long (within p (width p) (omega arith));
      room_is = omega (arith, pre.0.first);
    }

pub small-requires-in-loop-j : goal.small-requires-in-loop-j
small-requires-in-loop-j c =
    let p = c.args.p in
    let pre = c.requires in
    let W = pre.0.well in
    let turn : c.loop-j.j < p.l = omega arith in
    record {
      well = W;
      narrow = width_bound p W;
      few = omega (arith, W.few);
      there = rw pre.1.secrets_long (within p (width p) (omega arith));
      room_is = omega (arith, pre.0.second);
    }

pub multiply_add-requires : goal.multiply_add-requires
multiply_add-requires c =
    let a = c.args in
    let p = a.p in
    let pre = c.requires.0 in
    let W = pre.well in
    let h = c.loop-j in
    summable p.l p.n (noise_most p) p.p a.acc.now (small_in p a.masked.now) (small_in p a.secrets.now) h.j
    (omega arith) W.few W.short W.small_secrets (product_most p W) pre.small
    (error_sized p W a.masked.now) (small_sized p W a.secrets.now)
    h.invariant c.small.ensures c.small-in-loop-j.ensures

pub loop-j-preserved : goal.loop-j-preserved
loop-j-preserved c =
    let a = c.args in
    let p = a.p in
    let h = c.loop-j in
    c.multiply_add.ensures
    ∙ partial_more p.n a.acc.now (small_in p a.masked.now) (small_in p a.secrets.now) h.j h.invariant
    c.small.ensures c.small-in-loop-j.ensures

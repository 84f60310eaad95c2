-- `noise::sums::add_keys` meets its contract: before turn i the products before it are added.
-- Assumes nothing.
use mathlib.Core.Path.{◌∙◌}
use native.Mathlib.Omega.{arith}
use Rattle.kindi.specs.Streams.{ephemeral_by}
use Rattle.noise.specs.Terms.{key_noise_in}
use Rattle.noise.proofs.Products.{partial_none, partial_more, summable}
use Rattle.noise.proofs.Bounds.{noise_most, key-noise_sized, ephemeral_sized, product_most}
use Rattle.noise.proofs.sums.add_keys.Goals as goal

pub loop-i-init : goal.loop-i-init
loop-i-init c = partial_none c.args.p.n c.args.acc.now _ _ c.requires.0.sum

pub multiply_add-requires : goal.multiply_add-requires
multiply_add-requires c =
    let a = c.args in
    let p = a.p in
    let pre = c.requires.0 in
    let W = pre.well in
    let h = c.loop-i in
    summable p.l p.n (noise_most p) p.p a.acc.now (key_noise_in p a.stream.now a.secrets.now a.b.now)
    (ephemeral_by p a.coins.now a.high.now a.rest.now) h.i (omega arith) W.few W.short W.small_secrets
    (product_most p W) pre.small
    (key-noise_sized p W a.stream.now a.secrets.now a.b.now)
    (ephemeral_sized p W a.coins.now a.high.now a.rest.now) h.invariant c.key_noise.ensures
    c.ephemeral.ensures

pub loop-i-preserved : goal.loop-i-preserved
loop-i-preserved c =
    let a = c.args in
    let p = a.p in
    let h = c.loop-i in
    c.multiply_add.ensures
    ∙ partial_more p.n a.acc.now (key_noise_in p a.stream.now a.secrets.now a.b.now)
    (ephemeral_by p a.coins.now a.high.now a.rest.now) h.i h.invariant c.key_noise.ensures c.ephemeral.ensures

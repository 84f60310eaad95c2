-- `cipher_terms::add_products` meets its contract: before polynomial i the products before it are added.
-- Assumes nothing.
use native.Mathlib.Omega.{arith}
use Rattle.cipher_terms.proofs.Public.{products_none, products_more}
use Rattle.cipher_terms.proofs.add_products.Goals as goal

pub loop-i-init : goal.loop-i-init
loop-i-init c =
    let a = c.args in
    products_none a.p a.pk.now a.low.now a.s.now a.d.now c.requires.sum (λ k. (c.type_inv.d k).fits)

pub loop-i-preserved : goal.loop-i-preserved
loop-i-preserved c =
    let a = c.args in
    products_more a.p a.pk.now a.low.now a.s.now a.d.now c.loop-i.i (omega (arith, c.requires.sum)) c.loop-i.invariant
    c.decompress.ensures c.multiply_add.ensures

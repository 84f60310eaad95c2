-- `ring_calls::ring_signed_product` meets its contract: two strings are centred, and their product is added to zeros.
-- Assumes nothing.
use native.Mathlib.Omega.{arith}
use borrow.Author.Rules.{rules}
use lib.ListN.{length, length-take, length-replicate}
use Rattle.ring_calls.proofs.Strings.{centred_at, summable}
use Rattle.ring_calls.proofs.ring_signed_product.Goals as goal

pub multiply_add-requires : goal.multiply_add-requires
multiply_add-requires c =
    let a = c.args in
    let n = length a.product.now in
    let xs = centred_at a.w a.p n _ c.centre.ensures (simp (length-take, length-replicate) (omega arith)) in
    let ys = centred_at a.w a.p n _ c.centre-2.ensures (simp (length-take, length-replicate) (omega arith)) in
    rw (c.fill.ensures.after (λ y e. e), xs, ys) (summable a.w a.p n _ _ (search rules))

-- `ring::poly::multiply_add` meets its contract: after i coefficients of a the first i rows of the product are added.
-- Assumes nothing.
use mathlib.Core.Path.{◌≡◌, sym, ap, ◌∙◌}
use Prim.Native.Nat.{ℕ, ◌*◌, ◌≤◌}
use native.Mathlib.Omega.{arith}
use lib.ListN.{length-take, length, take, replicate, length-replicate}
use Rattle.ring.proofs.Product.{added_begun, added_more, added-all}
use Rattle.ring.proofs.poly.multiply_add.Goals as goal

lent : (n : ℕ) → n ≤ 512 → length (take (2 * n) (replicate {A = ℕ} 1024 0)) ≡ 2 * n
lent n h = simp (length-take, length-replicate) (omega arith)

pub slice_bounds-double-end : goal.slice_bounds-double-end
slice_bounds-double-end c = sym (lent (length c.args.acc.now) c.requires.short)

pub double-requires : goal.double-requires
double-requires c = lent (length c.args.acc.now) c.requires.short ∙ ap (λ (m : ℕ). 2 * m) (sym c.requires.second)

pub loop-i-init : goal.loop-i-init
loop-i-init c =
    added_begun (replicate {A = ℕ} 1024 0) c.requires (λ i. (c.type_inv.acc i).fits) c.double.ensures
    (c.double.auto.row ∙ lent (length c.args.acc.now) c.requires.short) (length-replicate {A = ℕ} 1024 0)

pub loop-i-preserved : goal.loop-i-preserved
loop-i-preserved c = added_more c.loop-i.invariant (omega arith) c.add_rows.auto.acc c.add_rows.ensures

pub returns : goal.returns
returns c = added-all c.loop-i.invariant (omega arith)

pub returns-2 : goal.returns-2
returns-2 c = added-all (added_more c.loop-i.invariant (omega arith) c.add_rows.auto.acc c.add_rows.ensures) (omega arith)

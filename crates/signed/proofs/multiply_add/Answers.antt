-- `signed::multiply_add` meets its contract: after k turns the first k coefficients of the product are added.
-- Assumes nothing.
use mathlib.Core.Path.{◌≡◌, sym, ap, ◌∙◌}
use Prim.Native.Nat.{ℕ, ◌*◌, ◌≤◌}
use lib.IntN.{ℤ, pos}
use native.Mathlib.Omega.{arith}
use lib.ListN.{length, length-take, take, replicate, length-replicate}
use Rattle.signed.proofs.Summing.{multiplied_begun, turn_terms, turn_fits, multiplied_more}
use Rattle.signed.proofs.multiply_add.Goals as goal

lent : (n : ℕ) → n ≤ 512 → length (take (2 * n) (replicate {A = ℤ} 1024 (pos 0))) ≡ 2 * n
lent n h = simp (length-take, length-replicate) (omega arith)

pub slice_bounds-double-end : goal.slice_bounds-double-end
slice_bounds-double-end c =
    sym (lent (length c.args.acc.now) c.requires.short)

pub double-requires : goal.double-requires
double-requires c =
    (lent (length c.args.acc.now) c.requires.short ∙ ap (λ (m : ℕ). 2 * m) (sym c.requires.second), c.requires.negatable)

pub loop-k-init : goal.loop-k-init
loop-k-init c =
    multiplied_begun (replicate {A = ℤ} 1024 (pos 0)) c.requires c.double.ensures
    (c.double.auto.row ∙ lent (length c.args.acc.now) c.requires.short) (length-replicate {A = ℤ} 1024 (pos 0))

pub dot-requires : goal.dot-requires
dot-requires c = turn_terms c.loop-k.invariant (omega arith)

pub overflow_add-x : goal.overflow_add-x
overflow_add-x c =
    turn_fits c.loop-k.invariant (omega arith) (record { sfits = omega arith }) (record { sfits = c.dot.type_inv }) c.dot.ensures

pub loop-k-preserved : goal.loop-k-preserved
loop-k-preserved c =
    multiplied_more c.loop-k.invariant (omega arith) (record { sfits = omega arith }) (record { sfits = c.dot.type_inv }) c.dot.ensures

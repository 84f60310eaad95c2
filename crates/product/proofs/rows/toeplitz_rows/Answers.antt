-- `product::rows::toeplitz_rows` meets its contract: before entry i of v the columns before i are added.
-- Assumes nothing.
use mathlib.Core.Path.{◌∙◌}
use Prim.Native.Nat.{◌+◌, ◌*◌, ◌-◌, ◌/◌}
use native.Mathlib.Omega.{arith}
use lib.ListN.{length}
use Rattle.product.proofs.Columns.{Paired, paired_begun, paired_more, paired_as, paired_all, paired_last, window_long}
use Rattle.product.proofs.rows.toeplitz_rows.Goals.{else-loop-i-test, then-loop-i-test+else-i-end-i-gt2}
use Rattle.product.proofs.rows.toeplitz_rows.Goals as goal

pub loop-i-init : goal.loop-i-init
loop-i-init c = paired_begun (λ i. (c.type_inv.acc i).fits)

pub add_two-requires : goal.add_two-requires
add_two-requires c =
    let i = c.loop-i.i in
    let n = length c.args.acc.now in
    window_long (n - 1 - i) (2 * n - i - (n - 1 - i)) c.args.row.now (omega arith) ∙ omega arith

pub bounds-v-i-in-loop-i : goal.bounds-v-i-in-loop-i
bounds-v-i-in-loop-i c = omega arith

pub loop-i-preserved : goal.loop-i-preserved
loop-i-preserved c =
    paired_more c.loop-i.invariant (omega arith) c.add_two.auto.acc c.add_two.ensures

pub add_column-requires : goal.add_column-requires
add_column-requires c = window_long 1 (length c.args.acc.now + 1 - 1) c.args.row.now (omega arith) ∙ omega arith

pub returns-then-n-eq1 : goal.returns-then-n-eq1
returns-then-n-eq1 c =
    let a = c.args in
    let pairs : Paired a.acc.now a.row.now a.v.now (length a.acc.now / 2 * 2) c.loop-i-test.acc = elim c.loop-i-test.branch [
      | else-loop-i-test w ↦ paired_as c.loop-i.invariant (omega arith) w.acc-is
      | then-loop-i-test+else-i-end-i-gt2 w ↦
          paired_as (paired_more c.loop-i.invariant (omega arith) w.add_two.auto.acc w.add_two.ensures) (omega arith) w.acc-is
    ] in
    paired_last pairs (omega arith) c.add_column.ensures

pub returns-else-n-eq1 : goal.returns-else-n-eq1
returns-else-n-eq1 c =
    let a = c.args in
    let pairs : Paired a.acc.now a.row.now a.v.now (length a.acc.now / 2 * 2) c.loop-i-test.acc = elim c.loop-i-test.branch [
      | else-loop-i-test w ↦ paired_as c.loop-i.invariant (omega arith) w.acc-is
      | then-loop-i-test+else-i-end-i-gt2 w ↦
          paired_as (paired_more c.loop-i.invariant (omega arith) w.add_two.auto.acc w.add_two.ensures) (omega arith) w.acc-is
    ] in
    paired_all pairs (omega arith)

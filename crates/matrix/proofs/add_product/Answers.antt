-- `matrix::add_product` meets its contract: before the polynomial in row i and column j the stream has given those before it, and
-- each sum has the products of those among them that go to it.
-- Assumes nothing.
use native.Mathlib.Omega.{arith}
use Rattle.matrix.proofs.Walking.{walking_begun, walking_sound, walking_more, walking_next, walking_end}
use Rattle.matrix.proofs.add_product.Goals as goal

pub loop-i-init : goal.loop-i-init
loop-i-init c =
    let a = c.args in
    walking_begun a.p a.mu.now a.columns a.v.now a.sums.now c.requires.sums_long (λ i. (c.type_inv.sums i).fits) c.begin-s.ensures

pub step-s-requires : goal.step-s-requires
step-s-requires c =
    let pre = c.requires in
    record {
      room = record {
        well = pre.well;
        vector_long = pre.vector_long;
        bytes_long = omega (arith, pre.bytes_long);
        list_long = omega (arith, pre.list_long);
        sums_long = c.loop-j.invariant.long;
      };
      sound = walking_sound pre.well c.loop-j.invariant;
      row = omega arith;
      column = omega arith;
    }

pub loop-j-preserved : goal.loop-j-preserved
loop-j-preserved c = walking_more c.requires.well c.loop-j.invariant (omega arith) (omega arith) c.step-s.auto.sums c.step-s.ensures

pub loop-i-preserved : goal.loop-i-preserved
loop-i-preserved c = walking_next c.requires.well c.loop-j.invariant (omega arith)

pub returns : goal.returns
returns c = walking_end c.requires.well c.loop-i.invariant (omega arith) (omega arith)

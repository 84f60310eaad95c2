-- `noise::factors::ephemeral` meets its contract.
-- Assumes nothing.
use mathlib.Core.Path.{◌≡◌, ap, ◌∙◌}
use Prim.Native.Nat.{ℕ, suc, ◌-◌, ◌<◌}
use native.Mathlib.Nat.{le_trans}
use native.Mathlib.Omega.{arith}
use Rattle.keccak.specs.Lists.{tabulate}
use Rattle.kindi.specs.Params.{width}
use Rattle.kindi.specs.Streams.{ephemeral_by}
use Rattle.vectors.proofs.Amounts.{width_bound, within}
use Rattle.noise.proofs.factors.ephemeral.Goals as goal

pub small-requires : goal.small-requires
small-requires c =
    let pre = c.requires in
    let p = c.args.p in
    let W = pre.first.well in
    let turn : c.args.i - 1 < p.l - 1 = omega (arith, pre.turn) in
    record {
      well = W;
      narrow = width_bound p W;
      few = omega (arith, pre.turn, W.few);
      there = le_trans (within p (width p) turn) pre.rest_there;
      room_is = pre.first.room_is;
    }

pub returns-then-i-eq0 : goal.returns-then-i-eq0
unfolding ephemeral_by
returns-then-i-eq0 c =
    let a = c.args in
    let none : 0 ≡ a.i = omega arith in
    c.first.ensures ∙
    ap (λ (i : ℕ). tabulate a.p.n (ephemeral_by a.p a.coins.now a.high.now a.rest.now i)) none

pub returns-else-i-eq0 : goal.returns-else-i-eq0
unfolding ephemeral_by
returns-else-i-eq0 c =
    let a = c.args in
    let some : suc (a.i - 1) ≡ a.i = omega arith in
    c.small.ensures ∙
    ap (λ (i : ℕ). tabulate a.p.n (ephemeral_by a.p a.coins.now a.high.now a.rest.now i)) some

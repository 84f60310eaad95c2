-- `noise::factors::first` meets its contract.
-- Assumes nothing.
use mathlib.Core.Path.{◌≡◌, sym, ap, ◌∙◌}
use Prim.Native.Nat.{ℕ, ◌+◌, ◌*◌, ◌-◌}
use native.Mathlib.Omega.{arith}
use lib.ListN.{length}
use lib.Seq.{length-take-le}
use Rattle.keccak.specs.Lists.{tabulate}
use Rattle.keccak.proofs.Entries.{length-tabulate}
use Rattle.ring.specs.Coefficients.{added}
use Rattle.kindi.specs.Params.{high_width}
use Rattle.kindi.specs.Streams.{coefficient}
use Rattle.vectors.proofs.Amounts.{width_bound, length_none}
use Rattle.noise.proofs.Tables.{centred_table, twice_table}
use Rattle.noise.proofs.Bounds.{first_below, first_values, coins_there}
use Rattle.noise.proofs.factors.first.Goals as goal

pub values-requires : goal.values-requires
values-requires c =
    let pre = c.requires in
    let W = pre.well in
    record {
      well = W;
      narrow = omega arith;
      few = omega arith;
      there = omega (arith, coins_there c.args.p W, pre.coins_long);
      room_is = length-take-le c.args.p.n _ W.short;
    }

pub values-requires-2 : goal.values-requires-2
values-requires-2 c =
    let pre = c.requires in
    let W = pre.well in
    let p = c.args.p in
    let w = c.width.ensures in
    record {
      well = W;
      narrow = rw w (omega (arith, width_bound p W));
      few = omega arith;
      there = rw w (omega (arith, length_none p (high_width p), pre.high_there));
      room_is = length-take-le p.n _ W.short;
    }

pub centre-requires : goal.centre-requires
centre-requires c =
    let values_are : c.add.new.acc ≡ tabulate c.args.p.n
    (λ x. coefficient 1 c.args.p.n c.args.coins.now 0 x +
    2 * coefficient (high_width c.args.p) c.args.p.n c.args.high.now 0 x) =
    let a = c.args in
    let p = a.p in
    let coins = a.coins.now in
    let high = a.high.now in
    let W = c.requires.well in
    twice_table p.n (coefficient 1 p.n coins 0) (coefficient (high_width p) p.n high 0)
    (λ x. omega (arith, first_below p W coins high x, W.small_secrets))
    c.values.ensures
    (c.values-2.ensures ∙ ap (λ (w : ℕ). tabulate p.n (coefficient (w - 1) p.n high 0))
    c.width.ensures)
    (c.add.ensures ∙ ap (added c.values.new.dst) c.raise.ensures) in
    let pre = c.requires in
    let p = c.args.p in (
      rw values_are (first_values p pre.well c.args.coins.now c.args.high.now),
      omega (arith, pre.well.small_secrets),
      pre.room_is ∙ sym (ap length values_are ∙ length-tabulate p.n _),
    )

pub returns : goal.returns
returns c =
    let values_are : c.add.new.acc ≡ tabulate c.args.p.n
    (λ x. coefficient 1 c.args.p.n c.args.coins.now 0 x +
    2 * coefficient (high_width c.args.p) c.args.p.n c.args.high.now 0 x) =
    let a = c.args in
    let p = a.p in
    let coins = a.coins.now in
    let high = a.high.now in
    let W = c.requires.well in
    twice_table p.n (coefficient 1 p.n coins 0) (coefficient (high_width p) p.n high 0)
    (λ x. omega (arith, first_below p W coins high x, W.small_secrets))
    c.values.ensures
    (c.values-2.ensures ∙ ap (λ (w : ℕ). tabulate p.n (coefficient (w - 1) p.n high 0))
    c.width.ensures)
    (c.add.ensures ∙ ap (added c.values.new.dst) c.raise.ensures) in
    let p = c.args.p in
    c.centre.ensures ∙ centred_table p.p p.n _ values_are

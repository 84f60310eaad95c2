-- `noise::factors::key_noise` meets its contract.
-- Assumes nothing.
use mathlib.Core.Path.{◌≡◌, sym, ap, ◌∙◌}
use Prim.Native.Nat.{ℕ, ◌+◌, ◌%◌, ◌^◌}
use native.Mathlib.Nat.{le_trans, mod-lt}
use native.Mathlib.Omega.{arith}
use lib.ListN.{length}
use lib.Pow.{pow_pos}
use lib.Seq.{length-take-le}
use Rattle.keccak.specs.Lists.{tabulate}
use Rattle.keccak.proofs.Entries.{length-tabulate}
use Rattle.kindi.specs.Params.{width}
use Rattle.kindi.specs.Streams.{coefficient}
use Rattle.kindi.proofs.Strings.{tabulate_below}
use Rattle.vectors.proofs.Amounts.{width_bound, within}
use Rattle.noise.specs.Terms.{key_noise_in}
use Rattle.noise.proofs.Tables.{low_table, combined_table}
use Rattle.noise.proofs.Bounds.{values_below, low_power}
use Rattle.noise.proofs.factors.key_noise.Goals as goal

pub values-requires : goal.values-requires
values-requires c =
    let pre = c.requires in
    let p = c.args.p in
    let W = pre.well in
    record {
      well = W;
      narrow = omega (arith, W.few_dropped);
      few = omega (arith, pre.turn, W.few);
      there = le_trans (within p p.t pre.turn) pre.low_there;
      room_is = length-take-le p.n _ W.short;
    }

pub values-requires-2 : goal.values-requires-2
values-requires-2 c =
    let pre = c.requires in
    let p = c.args.p in
    let W = pre.well in
    let w = c.width.ensures in
    record {
      well = W;
      narrow = rw w (width_bound p W);
      few = omega (arith, pre.turn, W.few);
      there = rw (w, pre.secrets_long) (within p (width p) (omega (arith, pre.turn)));
      room_is = length-take-le p.n _ W.short;
    }

pub values-requires-3 : goal.values-requires-3
values-requires-3 c =
    let pre = c.requires in
    let p = c.args.p in
    let W = pre.well in
    record {
      well = W;
      narrow = W.word;
      few = omega (arith, pre.turn, W.few);
      there = rw pre.value_long (within p p.k pre.turn);
      room_is = length-take-le p.n _ W.short;
    }

pub combine-requires : goal.combine-requires
combine-requires c =
    let values_are : c.values.new.dst ≡ tabulate c.args.p.n
    (coefficient c.args.p.t c.args.p.n c.args.stream.now c.args.i) =
    c.values.ensures in
    let errors_are : c.values-2.new.dst ≡ tabulate c.args.p.n
    (coefficient (width c.args.p) c.args.p.n c.args.secrets.now (c.args.p.l + c.args.i)) =
    let a = c.args in
    c.values-2.ensures ∙ ap (λ (w : ℕ). tabulate a.p.n (coefficient w a.p.n a.secrets.now (a.p.l + a.i)))
    c.width.ensures in
    let low_are : c.reduce.new.xs ≡ tabulate c.args.p.n
    (λ x. coefficient c.args.p.k c.args.p.n c.args.b.now c.args.i x % 2 ^ c.args.p.t) =
    let a = c.args in
    c.reduce.ensures ∙ low_table a.p.t a.p.n (coefficient a.p.k a.p.n a.b.now a.i)
    c.values-3.ensures in
    let a = c.args in
    let p = a.p in
    let pre = c.requires in
    let W = pre.well in
    let w = values_are in
    let r = errors_are in
    let low = low_are in
    record {
      well = W;
      first = ap length w ∙ length-tabulate p.n _ ∙ sym pre.room_is;
      second = ap length r ∙ length-tabulate p.n _ ∙ sym pre.room_is;
      third = ap length low ∙ length-tabulate p.n _ ∙ sym pre.room_is;
      first_small = rw w (values_below 4096 p.t p.n a.stream.now a.i (omega (arith, low_power p W)));
      second_small = rw r
          (values_below 4096 (width p) p.n a.secrets.now (p.l + a.i) (omega (arith, W.narrow, W.small_secrets)));
      third_small = rw low
          (tabulate_below 4096 p.n _ (omega arith)
          (λ x _. omega (arith, low_power p W, mod-lt (coefficient p.k p.n a.b.now a.i x) (pow_pos p.t))));
    }

pub returns : goal.returns
unfolding key_noise_in
returns c =
    let values_are : c.values.new.dst ≡ tabulate c.args.p.n
    (coefficient c.args.p.t c.args.p.n c.args.stream.now c.args.i) =
    c.values.ensures in
    let errors_are : c.values-2.new.dst ≡ tabulate c.args.p.n
    (coefficient (width c.args.p) c.args.p.n c.args.secrets.now (c.args.p.l + c.args.i)) =
    let a = c.args in
    c.values-2.ensures ∙ ap (λ (w : ℕ). tabulate a.p.n (coefficient w a.p.n a.secrets.now (a.p.l + a.i)))
    c.width.ensures in
    let low_are : c.reduce.new.xs ≡ tabulate c.args.p.n
    (λ x. coefficient c.args.p.k c.args.p.n c.args.b.now c.args.i x % 2 ^ c.args.p.t) =
    let a = c.args in
    c.reduce.ensures ∙ low_table a.p.t a.p.n (coefficient a.p.k a.p.n a.b.now a.i)
    c.values-3.ensures in
    let a = c.args in
    let p = a.p in
    c.combine.ensures
    ∙ combined_table p p.n (coefficient p.t p.n a.stream.now a.i)
    (coefficient (width p) p.n a.secrets.now (p.l + a.i)) (λ x. coefficient p.k p.n a.b.now a.i x % 2 ^ p.t)
    values_are errors_are low_are

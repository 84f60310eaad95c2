-- `noise::sums::accumulate` meets its contract.
-- Assumes nothing.
use mathlib.Core.Path.{◌≡◌, sym, ap, ◌∙◌}
use mathlib.Core.List.{List}
use Prim.Native.Nat.{ℕ, ◌-◌, ◌^◌, ◌≤◌}
use native.Mathlib.Nat.{le_trans}
use native.Mathlib.Omega.{arith}
use lib.IntN.{pos}
use lib.ListN.{length, take, drop, length-drop, length-replicate}
use Rattle.keccak.proofs.Parts.{take_rest}
use Rattle.ring.specs.Integers.{largest}
use Rattle.ring.proofs.Sizes.{largest_zeros}
use Rattle.kindi.specs.Params.{width}
use Rattle.kindi.specs.Streams.{small_in}
use Rattle.vectors.proofs.Amounts.{width_bound, within}
use Rattle.noise.proofs.Products.{errors_size, rest-size, largest_table}
use Rattle.noise.proofs.Bounds.{noise_most, small_sized, error_sized, product_most}
use Rattle.noise.proofs.Streams.{mask_length, accumulated}
use Rattle.noise.proofs.sums.accumulate.Goals as goal

pub add_errors-requires : goal.add_errors-requires
add_errors-requires c =
    let masked_long = mask_length c.args.p c.args.stream.now c.mask-mask.result.start c.mask-mask.result.end
    c.mask-mask.ensures.0 c.mask-mask.ensures.1 c.requires.0.stream_long in
    let pre = c.requires in
    let p = c.args.p in
    let none : largest c.args.acc.now ≡ 0 = ap largest pre.3 ∙ largest_zeros p.n in (
      record {
        well = pre.0.well;
        first = pre.1;
        second = pre.2;
        sum = ap length pre.3 ∙ length-replicate p.n (pos 0);
        small = omega (arith, none);
      },
      record { masked_long = masked_long; secrets_long = pre.0.secrets_long },
    )

pub small-requires : goal.small-requires
small-requires c =
    let masked_long = mask_length c.args.p c.args.stream.now c.mask-mask.result.start c.mask-mask.result.end
    c.mask-mask.ensures.0 c.mask-mask.ensures.1 c.requires.0.stream_long in
    let pre = c.requires in
    let p = c.args.p in
    let W = pre.0.well in
    record {
      well = W;
      narrow = width_bound p W;
      few = omega (arith, W.few);
      there = rw masked_long (within p (width p) (omega arith));
      room_is = c.add_errors.auto.x ∙ pre.1;
    }

pub subtract_from-requires : goal.subtract_from-requires
subtract_from-requires c =
    let sum_long : length c.add_errors.new.acc ≡ c.args.p.n =
    c.add_errors.auto.acc ∙ ap length c.requires.3 ∙ length-replicate c.args.p.n (pos 0) in
    let errors_small : largest c.add_errors.new.acc ≤ 2 ^ 26 =
    let a = c.args in
    let p = a.p in
    let W = c.requires.0.well in
    let mid : List ℕ = take (c.mask-mask.result.end - c.mask-mask.result.start) (drop c.mask-mask.result.start a.stream.now) in
    errors_size p.l p.n (noise_most p) p.p (small_in p mid) (small_in p a.secrets.now) c.requires.3 W.few (product_most p W)
    (error_sized p W mid) (small_sized p W a.secrets.now) c.add_errors.ensures in
    let last_small : largest c.small.new.dst ≤ 64 =
    let p = c.args.p in
    let W = c.requires.0.well in
    rw c.small.ensures (le_trans (largest_table p.n p.p _ (small_sized p W _ _)) W.small_secrets) in (
      c.small.auto.dst ∙ c.add_errors.auto.x ∙ c.requires.1 ∙
          sym sum_long,
      omega (arith, last_small, errors_small),
    )

pub add_keys-requires : goal.add_keys-requires
add_keys-requires c =
    let sum_long : length c.add_errors.new.acc ≡ c.args.p.n =
    c.add_errors.auto.acc ∙ ap length c.requires.3 ∙ length-replicate c.args.p.n (pos 0) in
    let errors_small : largest c.add_errors.new.acc ≤ 2 ^ 26 =
    let a = c.args in
    let p = a.p in
    let W = c.requires.0.well in
    let mid : List ℕ = take (c.mask-mask.result.end - c.mask-mask.result.start) (drop c.mask-mask.result.start a.stream.now) in
    errors_size p.l p.n (noise_most p) p.p (small_in p mid) (small_in p a.secrets.now) c.requires.3 W.few (product_most p W)
    (error_sized p W mid) (small_sized p W a.secrets.now) c.add_errors.ensures in
    let last_small : largest c.small.new.dst ≤ 64 =
    let p = c.args.p in
    let W = c.requires.0.well in
    rw c.small.ensures (le_trans (largest_table p.n p.p _ (small_sized p W _ _)) W.small_secrets) in
    let pre = c.requires in
    let p = c.args.p in
    let X = c.args.stream.now in
    let ee = c.mask-mask.ensures.1 in (
      record {
        well = pre.0.well;
        first = c.small.auto.dst ∙ c.add_errors.auto.x ∙ pre.1;
        second = c.add_errors.auto.s ∙ pre.2;
        sum = c.subtract_from.auto.acc ∙ sum_long;
        small = omega (
          arith,
          rest-size (length c.add_errors.new.acc)
              c.small.new.dst c.add_errors.new.acc
              c.subtract_from.ensures,
          last_small,
          errors_small,
        );
      },
      record {
        value_long = pre.0.value_long;
        coins_long = pre.0.coins_long;
        secrets_long = pre.0.secrets_long;
        low_there = omega (arith, pre.0.stream_long);
        high_there = rw (take_rest _ X, length-drop _ X) (omega (arith, ee, pre.0.stream_long));
        rest_there = rw (take_rest _ X, length-drop _ X) (omega (arith, ee, c.high.ensures.0, pre.0.stream_long));
      },
    )

pub returns : goal.returns
returns c =
    let a = c.args in
    accumulated a.p a.b.now a.coins.now a.secrets.now a.stream.now c.mask-mask.result.start
    c.mask-mask.result.end c.high.result
    c.mask-mask.ensures.0 c.mask-mask.ensures.1 c.high.ensures.0 c.requires.3
    c.add_errors.ensures c.small.ensures c.subtract_from.ensures
    c.add_keys.ensures

-- `decryption::sums_less_cipher` meets its contract.
-- Assumes nothing.
use Rattle.decryption.proofs.Sums.{stream_there, stream_of, mask_there, sums_less}
use Rattle.kindi.specs.Params.{coins_stream_length}
use Rattle.kindi.specs.Streams.{coins_stream}
use Rattle.vectors.proofs.Amounts.{reads}
use Rattle.vectors.proofs.Joining.{first_same}
use lib.ListN.{length, take, drop}
use Prim.Native.Nat.{ℕ, ◌+◌}
use native.Mathlib.Omega.{arith}
use mathlib.Core.List.{List, ◌++◌}
use mathlib.Core.Path.{◌≡◌, ◌∙◌}
use Rattle.decryption.proofs.sums_less_cipher.Goals as goal

pub unpack-requires : goal.unpack-requires
unpack-requires c =
    let p = c.args.p in
    let pre = c.requires in
    (pre.well.word, reads p pre.well (p.l + 1) p.k pre.sums_long (omega (arith, pre.cipher_long)))

pub add_noiseless-requires : goal.add_noiseless-requires
add_noiseless-requires c =
    let written : List ℕ =
    c.shake.new.output ++ drop c.coins_stream-stream.result c.args.work.now in
    let written_long : length (written) ≡ length c.args.work.now =
    first_same c.coins_stream-stream.result c.shake.new.output c.args.work.now c.shake.auto.output in
    let stream : take (coins_stream_length c.args.p) (written) ≡ coins_stream c.args.p c.args.coins.now =
    let is = c.coins_stream-stream.ensures.0 in
    stream_there c.args.p c.args.coins.now c.args.work.now c.shake.new.output is
    (omega (arith, is, c.requires.work_long)) c.shake.ensures in
    let pre = c.requires in
    let p = c.args.p in
    record {
      well = pre.well;
      public_long = pre.public_long;
      coins_long = pre.coins_long;
      stream_fits = omega (arith, written_long, pre.work_long);
      stream = stream_of p c.args.coins.now (stream);
      polynomial_fits = omega (arith, written_long, c.mask-end.ensures.1, pre.work_long);
      secret_long = pre.secret_long;
      sums_long = c.subtract_from.auto.xs ∙ c.unpack.auto.dst ∙ pre.sums_long;
    }

pub returns : goal.returns
returns c =
    let written : List ℕ =
    c.shake.new.output ++ drop c.coins_stream-stream.result c.args.work.now in
    let stream : take (coins_stream_length c.args.p) (written) ≡ coins_stream c.args.p c.args.coins.now =
    let is = c.coins_stream-stream.ensures.0 in
    stream_there c.args.p c.args.coins.now c.args.work.now c.shake.new.output is
    (omega (arith, is, c.requires.work_long)) c.shake.ensures in
    let a = c.args in
    record {
      sums_are = sums_less a.p a.pk.now a.ct.now a.coins.now c.requires.sums_long c.unpack.ensures
          c.subtract_from.ensures c.add_noiseless.ensures.sums_are;
      mask_is = mask_there a.p a.coins.now (written) _ c.mask-end.ensures.1 (stream)
          c.add_noiseless.ensures.kept;
    }

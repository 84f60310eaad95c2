-- `noise::measure` meets its contract.
-- Assumes nothing.
use mathlib.Core.Path.{◌≡◌, ap, ◌∙◌}
use mathlib.Core.List.{List, ◌++◌}
use Prim.Native.Nat.{ℕ, ◌+◌, ◌-◌, ◌≤◌}
use native.Mathlib.Omega.{arith}
use lib.ListN.{length, take}
use Rattle.keccak.specs.Lists.{patched}
use Rattle.hash.specs.Shake.{shake}
use Rattle.ring.specs.Integers.{largest}
use Rattle.kindi.specs.Params.{modulus, secrets_length, coins_stream_length}
use Rattle.kindi.specs.Keys.{secret_seed}
use Rattle.kindi.specs.Noise.{inside, clear}
use Rattle.kindi.specs.Answers.{clear_under, largest_under}
use Rattle.noise.specs.Terms.{noises_from}
use Rattle.noise.proofs.Agreeing.{length-value}
use Rattle.noise.proofs.Streams.{masked_stream, stream_stays, streams_written, streams_size, noises_are}
use Rattle.noise.proofs.measure.Goals as goal

pub sizes-requires : goal.sizes-requires
sizes-requires c =
    let written : List ℕ =
    let s : ℕ = c.secrets-secrets.result in
    patched s (s + c.coins_stream.result - s) c.masked_stream.new.stream c.args.work.now in
    let room : c.secrets-secrets.result + c.coins_stream.result ≤ length c.args.work.now =
    omega (arith, c.secrets-secrets.ensures.0, c.coins_stream.ensures.0, c.requires.work_long) in
    let streams : take (c.secrets-secrets.result + c.coins_stream.result) written
    ≡ shake c.args.p.rate (secret_seed c.args.p c.args.sk.now) (secrets_length c.args.p) ++
    masked_stream c.args.p c.args.coins.now c.args.message.now =
    let a = c.args in
    streams_written a.p a.sk.now a.coins.now a.message.now a.work.now c.secrets-secrets.ensures.0
    c.coins_stream.ensures.0 room c.requires.stream_kept c.masked_stream.ensures in
    let streams_long : length (take (c.secrets-secrets.result + c.coins_stream.result) written)
    ≡ secrets_length c.args.p + coins_stream_length c.args.p =
    let a = c.args in
    ap length streams ∙ streams_size a.p a.sk.now a.coins.now a.message.now in
    let a = c.args in
    let pre = c.requires in
    record {
      well = pre.key.well;
      value_long = ap length pre.key.value_is ∙ length-value a.p pre.key.well a.sk.now;
      coins_long = pre.coins_long;
      streams_long = streams_long;
    }

pub returns : goal.returns
unfolding clear_under largest_under clear
returns c =
    let room : c.secrets-secrets.result + c.coins_stream.result ≤ length c.args.work.now =
    omega (arith, c.secrets-secrets.ensures.0, c.coins_stream.ensures.0, c.requires.work_long) in
    let written : List ℕ =
    let s : ℕ = c.secrets-secrets.result in
    patched s (s + c.coins_stream.result - s) c.masked_stream.new.stream c.args.work.now in
    let streams : take (c.secrets-secrets.result + c.coins_stream.result) written
    ≡ shake c.args.p.rate (secret_seed c.args.p c.args.sk.now) (secrets_length c.args.p) ++
    masked_stream c.args.p c.args.coins.now c.args.message.now =
    let a = c.args in
    streams_written a.p a.sk.now a.coins.now a.message.now a.work.now c.secrets-secrets.ensures.0
    c.coins_stream.ensures.0 room c.requires.stream_kept c.masked_stream.ensures in
    let a = c.args in
    let p = a.p in
    let pre = c.requires in
    let s : ℕ = c.secrets-secrets.result in
    let all = ap (noises_from p a.b.now a.coins.now) streams ∙
    noises_are p pre.key.well a.sk.now a.b.now a.coins.now a.message.now pre.key.value_is in (
      c.sizes.ensures.0 ∙ ap (inside (modulus p)) all,
      c.sizes.ensures.1 ∙ ap largest all,
      stream_stays p a.sk.now a.work.now c.masked_stream.new.stream
          (s + c.coins_stream.result - s) c.secrets-secrets.ensures.0
          (omega (arith, room)) pre.stream_kept,
    )

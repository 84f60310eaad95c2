-- `keys::public_vector` meets its contract: the stream of γ, r and r', and the products of A with r.
-- Assumes nothing.
use Rattle.keys.proofs.Made.{stream_there, stream_kept, public_made}
use Rattle.hash.specs.Shake.{shake}
use Rattle.hash.proofs.Laws.{length-shake}
use Rattle.kindi.specs.Params.{secrets_length}
use lib.ListN.{length, take, drop}
use native.Mathlib.Omega.{arith}
use Prim.Native.Nat.{ℕ, ◌+◌, ◌-◌, ◌≤◌}
use mathlib.Core.List.{List, ◌++◌}
use mathlib.Core.Path.{◌≡◌, ap, ◌∙◌}
use Rattle.keys.proofs.public_vector.Goals as goal

pub returns : goal.returns
returns c =
    let written : List ℕ =
    c.shake.new.output ++ drop c.secrets-secrets.result c.args.work.now in
    let secrets_fit : c.secrets-secrets.result ≤ length c.args.work.now =
    omega (arith, c.secrets-secrets.ensures.0, c.requires.stream.secrets_fit) in
    let stream : take c.secrets-secrets.result (written) ≡ shake c.args.p.rate c.args.gamma.now (secrets_length c.args.p) =
    let a = c.args in
    stream_there a.p.rate a.work.now a.gamma.now c.secrets-secrets.ensures.0 (secrets_fit) c.shake.ensures in
    let stream_long : length (take c.secrets-secrets.result (written)) ≡ secrets_length c.args.p =
    let a = c.args in
    ap length (stream) ∙ length-shake a.p.rate a.gamma.now (secrets_length a.p) in
    let a = c.args in
    let secrets = c.read_secrets.ensures in (
      public_made a.p a.mu.now a.gamma.now _ (stream) secrets.0 secrets.1 c.add_product.ensures,
      stream_kept (written) a.at c.secrets-secrets.result (a.at + c.polynomial.result - a.at)
          c.add_product.new.bytes (stream) (omega (arith, stream_long, c.requires.stream.within)),
    )

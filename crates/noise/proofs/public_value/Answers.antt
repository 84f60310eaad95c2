-- `noise::public_value` meets its contract.
-- Assumes nothing.
use Rattle.noise.proofs.Agreeing.{value_made}
use Rattle.noise.proofs.Streams.{matrix_seed_part, secret_seed_part, stream_there}
use Rattle.noise.proofs.public_value.Goals as goal

pub returns : goal.returns
returns c =
    let p = c.args.p in
    let sk = c.args.sk.now in
    let pre = c.requires in
    let at = c.stored-stored.ensures.0 in
    let made = c.public_polynomials.ensures in
    let γ = secret_seed_part p sk at in (
      value_made p sk (matrix_seed_part p sk pre.secret_long at) γ made.0,
      stream_there p sk _ c.secrets-secrets.ensures.0 γ made.1,
    )

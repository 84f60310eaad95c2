-- `keys::keygen` meets its contract: the public key, and the three parts of the secret key, each in its place.
-- Assumes nothing.
use mathlib.Core.Path.{◌≡◌, ap, ◌∙◌}
use Prim.Native.Nat.{◌+◌, ◌≤◌}
use native.Mathlib.Omega.{arith}
use lib.ListN.{length, length-take}
use Rattle.keys.proofs.Made.{key_made, secret_made}
use Rattle.keys.proofs.keygen.Goals as goal

pub returns : goal.returns
returns c =
    let a = c.args in
    let p = a.p in
    let pre = c.requires in
    let stored_long : length c.public_polynomials.new.dst ≡ c.stored-stored.result =
    c.public_polynomials.auto.dst ∙ simp length-take (omega (arith, c.stored-stored.ensures.0, pre.public_long)) in
    let public = key_made p a.mu.now a.gamma.now a.pk.now stored_long c.public_polynomials.ensures.0 c.copy.ensures in
    let fits : c.stored-stored.result + p.seed + p.seed ≤ length a.sk.now = omega (arith, c.stored-stored.ensures.0, pre.secret_long) in
    let public_long : length c.copy-2.new.dst ≡ c.stored-stored.result + p.seed
    = c.copy-2.auto.dst ∙ simp length-take (omega (arith, fits)) in (
      public,
      secret_made p a.mu.now a.gamma.now a.z.now a.sk.now (c.stored-stored.result + p.seed) p.seed public_long
          (ap length c.copy-3.ensures ∙ pre.γ_long) fits (c.copy-2.ensures ∙ public)
          c.copy-3.ensures c.copy-4.ensures,
    )

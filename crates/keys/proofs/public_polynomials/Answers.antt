-- `keys::public_polynomials` meets its contract: b in a local array, then its bytes.
-- Assumes nothing.
use mathlib.Core.Path.{◌≡◌, ◌∙◌}
use Prim.Native.Nat.{◌*◌}
use native.Mathlib.Omega.{arith}
use lib.ListN.{length, length-take}
use lib.Seq.{take_at}
use Rattle.keys.proofs.Made.{stored_made}
use Rattle.keys.proofs.public_polynomials.Goals as goal

pub returns : goal.returns
returns c =
    let a = c.args in
    let p = a.p in
    let W = c.requires.stream.well in
    let sums_long : length c.public_vector.new.sums ≡ p.l * p.n = c.public_vector.auto.sums ∙ simp length-take (omega (arith, W.vector)) in (
      stored_made p W a.t a.mu.now a.gamma.now (take_at _ _ _ sums_long ∙ c.public_vector.ensures.0) c.store.ensures,
      c.public_vector.ensures.1,
    )

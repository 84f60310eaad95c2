-- `ring_calls::centre` meets its contract: the values are below 2^10 before they are centred.
-- Assumes nothing.
use mathlib.Core.Path.{sym, ap, ◌∙◌}
use Prim.Native.Nat.{ℕ, ◌^◌, ◌≤◌}
use native.Mathlib.Omega.{arith}
use lib.ListN.{length}
use lib.Pow.{pow_mono}
use Rattle.bits.proofs.Digits.{unpack_below}
use Rattle.bits.specs.Bits.{unpack}
use Rattle.ring.specs.Coefficients.{centred_integers}
use Rattle.ring_calls.proofs.centre.Goals as goal

pub unpack-requires : goal.unpack-requires
unpack-requires c = (omega arith, rw c.requires.2 (omega arith))

pub centre-requires : goal.centre-requires
centre-requires c =
    let a = c.args in
    let unpacked = c.unpack in
    let few : 2 ^ a.w ≤ 2 ^ 10 = pow_mono c.requires.0 in
    let n = length a.values.now in (
      (λ i. rw unpacked.ensures (omega (arith, unpack_below a.w n a.bytes.now i))),
      omega arith,
      sym (unpacked.auto.dst ∙ c.requires.2),
    )

pub returns : goal.returns
returns c =
    let a = c.args in
    c.centre.ensures
    ∙ ap (centred_integers a.p) (c.unpack.ensures ∙ ap (λ (n : ℕ). unpack a.w n a.bytes.now) c.requires.2)

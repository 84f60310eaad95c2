-- `decryption::recover::coins_from` meets its contract.
-- Assumes nothing.
use Rattle.decryption.proofs.Value.{coins_rounded}
use Rattle.vectors.proofs.Amounts.{reads, width_bound}
use Rattle.vectors.proofs.Reading.{small-vector}
use Rattle.kindi.specs.Params.{width}
use Rattle.bits.specs.Bits.{pack, unpack, low_bits}
use Rattle.ring.specs.Coefficients.{centred_words}
use Prim.Native.Nat.{ℕ}
use mathlib.Core.List.{List}
use mathlib.Core.Path.{ap, ap₂, ◌∙◌}
use Rattle.decryption.proofs.recover.coins_from.Goals as goal

pub small-requires : goal.small-requires
small-requires c =
    let p = c.args.p in
    let pre = c.requires in
    let W = pre.room.well in (
      rw c.width.ensures (width_bound p W),
      rw c.width.ensures (reads p W p.l (width p) pre.room.secret_long pre.secret_there),
    )

pub returns : goal.returns
returns c =
    let a = c.args in
    let p = a.p in
    let pre = c.requires in
    let bytes = a.bytes.now in
    c.pack.ensures ∙ ap (λ (l : List ℕ). pack 1 (low_bits 1 l)) c.round.ensures
    ∙ coins_rounded p pre.room.well bytes a.ct.now c.small.new.dst
    c.noisy_value.new.d
    (c.small.ensures ∙ ap₂ (λ (w m : ℕ). centred_words p.p (unpack w m bytes)) c.width.ensures
    pre.room.secret_long
    ∙ small-vector p.l p.n (width p) p.p bytes)
    c.noisy_value.ensures

-- `noise::factors::values` meets its contract.
-- Assumes nothing.
use mathlib.Core.Path.{sym, ap, ap₂, ◌∙◌}
use mathlib.Core.List.{List}
use Prim.Native.Nat.{ℕ}
use native.Mathlib.Nat.{one-mul}
use native.Mathlib.Omega.{arith}
use lib.ListN.{drop}
use Rattle.keccak.proofs.Parts.{take_rest}
use Rattle.bits.specs.Bits.{Below, unpack}
use Rattle.vectors.proofs.Amounts.{reads_rest}
use Rattle.vectors.proofs.Reading.{unpack-from}
use Rattle.noise.proofs.factors.values.Goals as goal

pub unpack-requires : goal.unpack-requires
unpack-requires c =
    let pre = c.requires in
    let a = c.args in
    let p = a.p in (
      pre.narrow,
      reads_rest p pre.well 1 a.w c.length_of-at.result a.bytes.now
          (pre.room_is ∙ sym (one-mul p.n)) (omega (arith, pre.there, c.length_of-at.ensures.0)),
    )

pub returns : goal.returns
returns c =
    let pre = c.requires in
    let a = c.args in
    let bytes = a.bytes.now in
    let below : Below 256 bytes = λ i. (c.type_inv.bytes i).fits in
    let at : ℕ = c.length_of-at.result in
    c.unpack.ensures
    ∙ ap₂ (λ (m : ℕ) (l : List ℕ). unpack a.w m l) pre.room_is
    (take_rest at bytes ∙ ap (λ (m : ℕ). drop m bytes) c.length_of-at.ensures.0)
    ∙ unpack-from a.p pre.well a.w a.p.n a.m bytes below

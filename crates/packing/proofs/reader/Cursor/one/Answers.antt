-- `packing::reader::Cursor::one` meets its contract: the bits stand in the word that is read.
-- Assumes nothing.
use mathlib.Core.List.{List}
use mathlib.Core.Path.{◌≡◌, ap, ap₂, ◌∙◌}
use Prim.Native.Nat.{ℕ, ◌/◌, ◌%◌, ◌^◌}
use native.Mathlib.Omega.{arith}
use Rattle.keccak.proofs.Parts.{take_rest}
use Rattle.keccak.specs.Lists.{value}
use Rattle.bits.proofs.Words.{field_is}
use Rattle.bits.specs.Bits.{Below}
use Rattle.packing.specs.declared.reader.Cursor.{Cursor}
use Rattle.packing.specs.Reading.{bit_of, coefficient_at}
use Rattle.packing.proofs.reader.Cursor.one.Goals as goal

pub returns : goal.returns
unfolding coefficient_at
returns c =
    let a = c.args in
    let src = a.src.now in
    let bytes : Below 256 src = λ i. (c.shared_slice_known-1.given i).fits in
    let read : c.low_bits.result ≡ value 8 src / 2 ^ bit_of a.self % 2 ^ a.w =
    c.low_bits.ensures
    ∙ ap (λ (x : ℕ). x / 2 ^ a.self.bit % 2 ^ a.w)
    (c.low_word-word.ensures ∙ ap (λ (l : List ℕ). value 8 l % 2 ^ 32) (take_rest a.self.byte src))
    ∙ field_is 32 a.w a.self.byte a.self.bit src bytes (omega arith)
    in
    ap₂ (λ (x : ℕ) (d : Cursor). record { value = x; next = d }) read c.after.ensures

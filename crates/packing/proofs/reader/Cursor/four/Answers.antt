-- `packing::reader::Cursor::four` meets its contract: the word has the coefficients.
-- Assumes nothing.
use mathlib.Core.List.{List}
use mathlib.Core.Path.{ap, ◌∙◌}
use Prim.Native.Nat.{ℕ, ◌/◌, ◌%◌, ◌^◌}
use Rattle.keccak.specs.Lists.{value, digits}
use Rattle.keccak.proofs.Parts.{take_rest}
use Rattle.bits.specs.Bits.{Below}
use Rattle.packing.proofs.Reading.{word_in_turn}
use Rattle.packing.proofs.reader.Cursor.four.Goals as goal

pub returns : goal.returns
returns c =
    let a = c.args in
    let src = a.src.now in
    let bytes : Below 256 src = λ i. (c.shared_slice_known-1.given i).fits in
    word_in_turn bytes c.requires.0
    (c.put_four.ensures
    ∙ ap (λ (x : ℕ). digits a.w 4 (x / 2 ^ a.self.bit))
    (c.word.ensures ∙ ap (λ (l : List ℕ). value 8 l % 2 ^ 64) (take_rest a.self.byte src)))
    c.after.ensures

-- `packing::reader::put_four` meets its contract: the digits are found at their places.
-- Assumes nothing.
use mathlib.Core.List.{List, [], ◌∷◌, ◌++◌, append-nil}
use mathlib.Core.Path.{◌≡◌, ap, ◌∙◌}
use Prim.Native.Nat.{ℕ, ◌/◌, ◌%◌}
use native.Mathlib.Nat.{div-div-eq-div-mul}
use native.Mathlib.Omega.{arith}
use lib.ListN.{drop_of_length-le}
use lib.Seq.{sets-eq}
use Rattle.keccak.specs.Lists.{digits}
use Rattle.bits.proofs.Words.{digits_apart}
use Rattle.packing.proofs.reader.put_four.Goals as goal

pub returns : goal.returns
unfolding digits
returns c =
    let z = c.spread-z.result in
    let a = c.args in
    let dst = a.dst.now in
    let four : List ℕ = c.low_half.result ∷ c.low_half-2.result ∷ c.low_half-3.result ∷ c.low_half-4.result ∷ [] in
    let are : four ≡ z % 65536 ∷ z / 65536 % 65536 ∷ z / 4294967296 % 65536 ∷ z / 281474976710656 % 65536 ∷ [] =
    rw (c.low_half.ensures, c.low_half-2.ensures, c.low_half-3.ensures, c.low_half-4.ensures)
    in
    let is : z % 65536 ∷ z / 65536 % 65536 ∷ z / 4294967296 % 65536 ∷ z / 281474976710656 % 65536 ∷ [] ≡ digits 16 4 z = simp div-div-eq-div-mul in
    sets-eq four dst 0 (omega arith) ∙ ap (λ (r : List ℕ). four ++ r) (drop_of_length-le dst {i = 4} (omega arith)) ∙ append-nil four ∙ are ∙ is
    ∙ ap (digits 16 4) c.spread-z.ensures ∙ digits_apart 16 a.w 4 a.x (omega arith)

-- `packing::put` meets its contract: the bytes are the low digits of v.
-- Assumes nothing.
use mathlib.Core.List.{List, ◌++◌}
use mathlib.Core.Path.{◌≡◌, refl, sym, ap, ◌∙◌}
use Prim.Native.Nat.{ℕ, min}
use native.Mathlib.Nat.{min-eq_left, min-eq_right}
use native.Mathlib.Omega.{arith}
use lib.ListN.{length, take, drop}
use lib.Seq.{take_at, take_all}
use Rattle.keccak.specs.Lists.{digits}
use Rattle.keccak.proofs.Parts.{length_digits}
use Rattle.bits.proofs.Digits.{digits-tabulate}
use Rattle.bits.proofs.Filling.{filling_more, filling_all}
use Rattle.packing.proofs.Bytes.{four_digits}
use Rattle.packing.proofs.put.Goals as goal

pub returns-then-dst-ge4 : goal.returns-then-dst-ge4
returns-then-dst-ge4 c =
    let v = c.args.v in
    let rest = drop 4 c.args.dst.now in
    let four : min 4 (length c.args.dst.now) ≡ 4 = min-eq_left c.if-dst-ge4.true in
    ap (λ (l : List ℕ). take 4 (l ++ rest)) (c.copy_from_slice.ensures.after ∙ c.to_le_bytes.ensures ∙ four_digits v)
    ∙ take_at (digits 8 4 v) rest 4 (length_digits 8 4 v) ∙ ap (λ (n : ℕ). digits 8 n v) (sym four)

pub loop-i-preserved : goal.loop-i-preserved
loop-i-preserved c = filling_more 0 c.loop-i.invariant (omega arith) refl

pub returns : goal.returns
returns c =
    let v = c.args.v in
    let h = c.loop-i in
    let n = length c.args.dst.now in
    let less : min 4 n ≡ n = min-eq_right (omega arith) in
    take_all 4 h.dst (omega arith) ∙ filling_all h.invariant refl (omega arith) ∙ rw less (sym (digits-tabulate 8 n v))

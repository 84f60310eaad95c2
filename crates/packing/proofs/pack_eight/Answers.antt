-- `packing::pack_eight` meets its contract: the two words have the bytes of the coefficients.
-- Assumes nothing.
use mathlib.Core.List.{List, ◌++◌}
use mathlib.Core.Path.{◌≡◌, ap, ap₂, ◌∙◌}
use Prim.Native.Nat.{ℕ, ◌+◌, ◌-◌, ◌*◌, ◌/◌, ◌^◌}
use native.Mathlib.Omega.{arith}
use lib.ListN.{length, take, drop, length-take, length-drop}
use Rattle.keccak.specs.Lists.{value, digits}
use Rattle.packing.proofs.Bytes.{eight_digits}
use Rattle.packing.proofs.Packing.{four_below, two_words_packed}
use Rattle.bits.specs.Bits.{low_bits}
use Rattle.packing.proofs.pack_eight.Goals as goal

pub upper-requires : goal.upper-requires
upper-requires c =
    let w = c.args.w in
    let src = c.args.src.now in
    let eight : length src ≡ 8 = omega arith in (
      omega arith,
      rw (c.four-low.ensures, c.split_at.ensures.front) (four_below w (take 4 src) (simp length-take (omega arith))),
      rw (c.four-high.ensures, c.split_at.ensures.back) (four_below w (drop 4 src) (simp length-drop (omega arith))),
    )

pub returns : goal.returns
returns c =
    let w = c.args.w in
    let src = c.args.src.now in
    let eight : length src ≡ 8 = omega arith in
    let half = w / 2 in
    let number : List ℕ → ℕ = λ l. value w (low_bits w l) in
    let low = c.four-low.ensures ∙ ap number c.split_at.ensures.front in
    let high = c.four-high.ensures ∙ ap number c.split_at.ensures.back in
    let upper = c.upper.ensures ∙ ap₂ (λ (x y : ℕ). (x + 2 ^ (4 * w) * y) / 2 ^ (8 * half)) low high in
    let first = c.copy_from_slice in
    let second = c.copy_from_slice-2 in
    let after = drop 8 c.args.dst.now in
    let rest = drop (half + 8 - half) (drop half (first.new.self ++ after)) in
    ap₂ (λ (p q : List ℕ). take w (take half (p ++ after) ++ (q ++ rest)))
    (first.ensures.after ∙ c.to_le_bytes.ensures ∙ eight_digits c.four-low.result ∙ ap (digits 8 8) low)
    (second.ensures.after ∙ c.to_le_bytes-2.ensures ∙ eight_digits c.upper.result ∙ ap (digits 8 8) upper)
    ∙ two_words_packed w src after rest (omega arith) eight

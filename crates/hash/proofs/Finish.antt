-- The sponge's last block: the padding that `finish` adds is the one that `finished` absorbs. Assumes nothing.
use mathlib.Core.Path.{◌≡◌, sym, ap, ap₂, ◌∙◌}
use mathlib.Core.List.{List, ◌++◌}
use Prim.Native.Nat.{ℕ, suc, ◌+◌, ◌-◌, ◌%◌}
use native.Mathlib.Nat.{mod-eq_of_lt}
use native.Mathlib.Omega.{arith}
use lib.Bits.{bit_xor}
use lib.ListN.{length, get_or, take, drop, set}
use Rattle.hash.proofs.Padding.{last_bytes, length-last_bytes, padding_is, xor_ends_at}
use Rattle.hash.proofs.Steps.{sponge, is_ready_as, absorbed-ready, absorbed-part}
use Rattle.keccak.specs.Strings.{xor_into}
use Rattle.hash.specs.Shake.{padding}
use Rattle.hash.specs.Stream.{Sound, ready, absorbed, finished}
use Rattle.hash.specs.declared.sponge.Sponge.{Sponge}

-- The padding of a sponge fills what is left of its block.
padding_left : (s t : Sponge) → Sound s → t ≡ ready s → padding s.rate s.at ≡ last_bytes (s.rate - 1 - t.at)
padding_left s t h is-t =
    let known = is_ready_as s t h is-t in
    let place : s.at % s.rate ≡ t.at = sym known.place ∙ mod-eq_of_lt (omega (arith, known.room, known.rate)) in
    padding_is s.rate s.at (s.rate - 1 - t.at) (omega (arith, place, known.room, known.rate))

pub finish_is : (s t : Sponge) → Sound s → t ≡ ready s
    → sponge (set (set t.bytes t.at (bit_xor (get_or t.bytes t.at 0) 31)) (t.rate - 1)
    (bit_xor (get_or (set t.bytes t.at (bit_xor (get_or t.bytes t.at 0) 31)) (t.rate - 1) 0) 128)) t.rate t.rate
    ≡ finished s
unfolding finished
finish_is s t h is-t =
    let known = is_ready_as s t h is-t in
    let b = t.bytes in
    let k = t.at in
    let m = s.rate - 1 - k in
    let pad = last_bytes m in
    let first = set b k (bit_xor (get_or b k 0) 31) in
    let long : length pad ≡ suc m = length-last_bytes m in
    let last : t.rate - 1 ≡ k + m = omega (arith, known.room, known.rate) in
    let full : t.rate ≡ k + length pad = omega (arith, known.room, known.rate, long) in
    let filled : set first (t.rate - 1) (bit_xor (get_or first (t.rate - 1) 0) 128) ≡ take k b ++ xor_into (drop k b) pad =
    ap (λ (i : ℕ). set first i (bit_xor (get_or first i 0) 128)) last ∙ xor_ends_at b k m
    in
    ap₂ (λ (l : List ℕ) (i : ℕ). sponge l i t.rate) filled full ∙ sym (absorbed-part b k t.rate pad (omega (arith, full)))
    ∙ ap (λ (v : Sponge). absorbed v pad) is-t ∙ sym (absorbed-ready s pad h (omega (arith, long)))
    ∙ ap (absorbed s) (sym (padding_left s t h is-t))

-- `packing::below` meets its contract: the factor is 2^w.
-- Assumes nothing.
use mathlib.Core.Path.{◌≡◌, ap, ap₂, ◌∙◌}
use Prim.Native.Nat.{ℕ, ◌+◌, ◌-◌, ◌*◌, ◌/◌, ◌%◌, ◌^◌}
use Rattle.packing.proofs.Packing.{below_fits}
use Rattle.bits.proofs.Words.{power_from}
use Rattle.packing.proofs.below.Goals as goal

pub returns : goal.returns
returns c =
    let a = c.args in
    let low : c.from-2.result ≡ a.c % 2 ^ a.w = c.from-2.ensures ∙ c.low_bits.ensures ∙ ap (λ (x : ℕ). x % 2 ^ a.w) c.from.ensures in
    let is : c.from-2.result + 65536 / 2 ^ (16 - a.w) * a.high ≡ a.c % 2 ^ a.w + 2 ^ a.w * a.high =
    ap₂ (λ (x y : ℕ). x + y * a.high) low (power_from a.w c.requires.0)
    in
    (is, rw is (below_fits a.w a.c a.high c.requires.0))

-- `packing::four` meets its contract: each coefficient is below those after it.
-- Assumes nothing.
use mathlib.Core.Path.{ap, ◌∙◌}
use Prim.Native.Nat.{ℕ, ◌+◌, ◌*◌, ◌%◌, ◌^◌}
use lib.ListN.{get_or}
use Rattle.packing.proofs.Packing.{four_value}
use Rattle.packing.proofs.four.Goals as goal

pub returns : goal.returns
returns c =
    let a = c.args in
    let src = a.src.now in
    let under : ℕ → ℕ → ℕ = λ i high. get_or src i 0 % 2 ^ a.w + 2 ^ a.w * high in
    c.below-4.ensures.0
    ∙ ap (under 0) (c.below-3.ensures.0 ∙
    ap (under 1) (c.below-2.ensures.0 ∙ ap (under 2) c.below.ensures.0))
    ∙ four_value a.w src c.requires.1

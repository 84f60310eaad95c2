-- `bits::reduce` meets its contract: after k turns the first k coefficients are reduced.
-- Assumes nothing.
use mathlib.Core.List.{map}
use mathlib.Core.Path.{refl, sym, ap, ◌∙◌}
use Prim.Native.Nat.{ℕ, ◌%◌, ◌^◌}
use native.Mathlib.Omega.{arith}
use lib.ListN.{length, get_or}
use Rattle.bits.proofs.Filling.{tabulate_entries, map-tabulate, filling_begun, filling_more, filling_at, filling_all}
use Rattle.bits.specs.Bits.{low_bits}
use Rattle.bits.proofs.reduce.Goals as goal

pub loop-x-init : goal.loop-x-init
loop-x-init c = filling_begun

pub loop-x-preserved : goal.loop-x-preserved
loop-x-preserved c =
    filling_more 0 c.loop-x.invariant (omega arith)
    (c.low_bits.ensures ∙ ap (λ (m : ℕ). m % 2 ^ c.args.w) (c.from.ensures ∙ filling_at 0 c.loop-x.invariant (omega arith)))

pub returns : goal.returns
unfolding low_bits
returns c =
    let low : ℕ → ℕ = λ x. x % 2 ^ c.args.w in
    let xs = c.args.xs.now in
    filling_all c.loop-x.invariant refl (omega arith)
    ∙ sym (map-tabulate low (length xs) (λ j. get_or xs j 0)) ∙ ap (map low) (tabulate_entries xs 0)

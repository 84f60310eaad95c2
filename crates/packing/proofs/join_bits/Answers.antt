-- `packing::join_bits` meets its contract: the bits stand above the pending ones, and all fit.
-- Assumes nothing.
use mathlib.Core.Path.{◌≡◌, ap, ◌∙◌}
use Prim.Native.Nat.{ℕ, ◌+◌, ◌*◌, ◌%◌, ◌^◌, ◌≤◌, ◌<◌}
use native.Mathlib.Nat.{mod-lt}
use native.Mathlib.Omega.{arith}
use lib.Pow.{pow_pos, pow_mono}
use Rattle.packing.proofs.Packing.{join_fits}
use Rattle.packing.proofs.join_bits.Goals as goal
use Rattle.packing.proofs.join_bits.Goals.{After-from-2}

-- The bits that are added stand above the pending ones.
low : (c : After-from-2) → c.from-2.result ≡ c.args.c % 2 ^ c.args.w
low c = c.from-2.ensures ∙ c.low_bits.ensures ∙ ap (λ (x : ℕ). x % 2 ^ c.args.w) c.from.ensures

joined : (c : After-from-2)
    →
    c.args.pending + 2 ^ c.args.count * c.from-2.result < 2 ^ (c.args.count + c.args.w)
joined c =
    let a = c.args in
    join_fits a.w a.count c.requires.2 (rw (low c) (mod-lt _ (pow_pos a.w)))

pub returns : goal.returns
returns c =
    let a = c.args in
    let narrow : a.count + a.w ≤ 23 = omega arith in
    let same : a.pending + c.from-2.result * 2 ^ a.count % 4294967296 ≡ a.pending + 2 ^ a.count * c.from-2.result =
    omega (arith, joined c, pow_mono narrow)
    in
    (same ∙ rw (low c), rw same (joined c))

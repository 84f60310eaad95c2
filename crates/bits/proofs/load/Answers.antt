-- `bits::load` meets its contract: after i turns the first i coefficients are loaded.
-- Assumes nothing.
use mathlib.Core.Path.{◌≡◌, refl, sym, ◌∙◌}
use Prim.Native.Nat.{◌+◌, ◌*◌, ◌/◌, ◌%◌, ◌^◌}
use native.Mathlib.Omega.{arith}
use lib.ListN.{length, get_or}
use Rattle.keccak.specs.Lists.{value}
use Rattle.bits.proofs.Digits.{digits-tabulate, pair_digit, value_at}
use Rattle.bits.specs.Bits.{Below, unpack}
use Rattle.bits.proofs.Filling.{filling_begun, filling_more, filling_all}
use Rattle.bits.proofs.load.Goals as goal

pub loop-i-init : goal.loop-i-init
loop-i-init c = filling_begun

pub loop-i-preserved : goal.loop-i-preserved
loop-i-preserved c =
    let src = c.args.src.now in
    let i = c.loop-i.i in
    let bytes : Below 256 src = λ k. (c.type_inv.src k).fits in
    let low : get_or src (2 * i) 0 ≡ value 8 src / 2 ^ (8 * (2 * i)) % 2 ^ 8 = value_at 8 src (2 * i) bytes in
    let high : get_or src (2 * i + 1) 0 ≡ value 8 src / 2 ^ (8 * (2 * i + 1)) % 2 ^ 8 = value_at 8 src (2 * i + 1) bytes in
    let swap : get_or src (2 * i) 0 + get_or src (2 * i + 1) 0 * 256 ≡ get_or src (2 * i) 0 + 2 ^ 8 * get_or src (2 * i + 1) 0 = omega arith in
    filling_more 0 c.loop-i.invariant (omega arith)
    (c.from_le_bytes.ensures ∙ swap ∙ rw (low, high) (sym (pair_digit (value 8 src) i)))

pub returns : goal.returns
unfolding unpack
returns c =
    filling_all c.loop-i.invariant refl (omega arith)
    ∙ sym (digits-tabulate 16 (length c.args.dst.now) (value 8 c.args.src.now))

-- `bits::store` meets its contract: after i turns the first i coefficients are stored.
-- Assumes nothing.
use mathlib.Core.Path.{refl, ap, ◌∙◌}
use native.Mathlib.Omega.{arith}
use lib.ListN.{length}
use Rattle.keccak.specs.Lists.{digits}
use Rattle.keccak.proofs.Parts.{parts_begun, parts_more, parts_all}
use Rattle.bits.proofs.Digits.{packed_pairs}
use Rattle.bits.proofs.store.Goals as goal

pub loop-i-init : goal.loop-i-init
loop-i-init c = parts_begun refl (omega arith)

pub loop-i-preserved : goal.loop-i-preserved
unfolding digits
loop-i-preserved c =
    let wrote = c.copy_from_slice.ensures.after ∙ c.to_le_bytes.ensures in
    parts_more c.loop-i.invariant 0 (omega arith) (ap length wrote) wrote

pub returns : goal.returns
returns c = parts_all c.loop-i.invariant (omega arith) ∙ packed_pairs c.args.src.now (λ k. (c.type_inv.src k).fits)

-- `decryption::recover::round` meets its contract: the values before x are rounded.
-- Assumes nothing.
use mathlib.Core.Path.{◌∙◌, ap}
use Prim.Native.Nat.{◌^◌}
use native.Mathlib.Omega.{arith}
use lib.ListN.{set}
use Rattle.kindi.specs.Decrypt.{rounded_bit}
use Rattle.vectors.proofs.Mapping.{mapped_more}
use Rattle.decryption.proofs.recover.round.Goals as goal

pub loop-x-preserved : goal.loop-x-preserved
loop-x-preserved c =
    ap (set c.loop-x.xs c.loop-x.x-index) c.rounded.ensures
    ∙ mapped_more (rounded_bit (2 ^ c.args.k)) _ _ _ (omega arith) c.loop-x.auto.xs c.loop-x.invariant

-- `recipients::coins::is_among` meets its contract: after i turns it is known of the first i coins whether one of them is this one.
-- Assumes nothing.
use mathlib.Core.Path.{refl, ap, ◌∙◌}
use Prim.Native.Nat.{◌*◌}
use native.Mathlib.Omega.{arith}
use lib.ListN.{length}
use Rattle.kindi.specs.Answers.{same}
use Rattle.vectors.proofs.Amounts.{part_length}
use Rattle.recipients.proofs.Places.{gathering_begun, gathering_more, gathering_all, part_fits, place_part}
use Rattle.recipients.proofs.coins.is_among.Goals as goal

pub loop-i-init : goal.loop-i-init
loop-i-init c = gathering_begun

pub same_bytes-found-requires : goal.same_bytes-found-requires
same_bytes-found-requires c =
    part_length (c.loop-i.i * length c.args.one.now) _ c.args.list.now (part_fits _ c.args.list.now c.requires c.loop-i-test.true)

pub loop-i-preserved : goal.loop-i-preserved
loop-i-preserved c =
    let one = c.args.one.now in
    gathering_more c.loop-i.invariant (omega arith)
    (c.same_bytes-found.ensures ∙ ap (λ xs. same xs one) (place_part c.loop-i.i refl refl c.args.list.now))

pub returns : goal.returns
returns c = gathering_all c.loop-i.invariant (omega arith)

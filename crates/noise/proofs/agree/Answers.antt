-- `noise::agree` meets its contract.
-- Assumes nothing.
use native.Mathlib.Omega.{arith}
use lib.ListN.{length-take}
use Rattle.noise.proofs.Agreeing.{agreement_room, agrees_is}
use Rattle.noise.proofs.Bounds.{stored_short}
use Rattle.noise.proofs.agree.Goals as goal

pub slice_bounds-dropped-end : goal.slice_bounds-dropped-end
slice_bounds-dropped-end c = omega (arith, c.length_of-part.ensures.0, stored_short c.args.p c.requires.well)

pub slice_bounds-agree-end-3 : goal.slice_bounds-agree-end-3
slice_bounds-agree-end-3 c = simp length-take (omega (arith, c.length_of-part.ensures.0, stored_short c.args.p c.requires.well))

pub agree-requires : goal.agree-requires
agree-requires c =
    agreement_room c.requires c.stored-stored.ensures.0 (simp length-take (omega (arith, c.requires.well.short)))
    (simp length-take (omega (arith, c.length_of-part.ensures.0, stored_short c.args.p c.requires.well)))

pub returns : goal.returns
returns c = search agrees_is

-- `vectors::lengths::padded` meets its contract.
-- Assumes nothing.
use Rattle.kindi.specs.Params.{length_of}
use Prim.Native.Nat.{◌+◌}
use mathlib.Core.Path.{ap, ◌∙◌}
use Rattle.vectors.proofs.lengths.padded.Goals as goal

pub returns : goal.returns
returns c =
    let p = c.args.p in
    (c.length_of.ensures.0 ∙ ap (length_of p (p.l + 1)) c.width.ensures, c.length_of.ensures.1)

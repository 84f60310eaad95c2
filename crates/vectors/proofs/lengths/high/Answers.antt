-- `vectors::lengths::high` meets its contract.
-- Assumes nothing.
use Rattle.kindi.specs.Params.{length_of}
use Prim.Native.Nat.{ℕ, ◌-◌}
use mathlib.Core.Path.{ap, ◌∙◌}
use Rattle.vectors.proofs.lengths.high.Goals as goal

pub returns : goal.returns
returns c =
    (c.length_of.ensures.0 ∙ ap (λ (w : ℕ). length_of c.args.p 1 (w - 1)) c.width.ensures, c.length_of.ensures.1)

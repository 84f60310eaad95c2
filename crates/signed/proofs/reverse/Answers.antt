-- `signed::reverse` meets its contract.
-- Assumes nothing.
use mathlib.Core.Path.{ap, ◌∙◌}
use Rattle.std.proofs.Common.{reverse}
use Rattle.signed.proofs.Reversal.{reversed}
use Rattle.signed.proofs.reverse.Goals as goal

pub returns : goal.returns
returns c = c.reverse.ensures.after ∙ ap reverse c.copy_from_slice.ensures.after ∙ reversed c.args.src.now

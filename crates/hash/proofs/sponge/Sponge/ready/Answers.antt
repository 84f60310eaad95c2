-- `hash::sponge::Sponge::ready` meets its contract: a full block is permuted, and another is left as it is.
-- Assumes nothing.
use mathlib.Core.Path.{sym, ◌∙◌}
use Rattle.hash.proofs.Steps.{ready_full, ready_other}
use Rattle.hash.proofs.sponge.Sponge.ready.Goals as goal

pub returns-then-self : goal.returns-then-self
returns-then-self c = c.permute.ensures ∙ sym (ready_full c.args.self c.if-self.true)

pub returns-else-self : goal.returns-else-self
returns-else-self c = sym (ready_other c.args.self c.if-self.false)

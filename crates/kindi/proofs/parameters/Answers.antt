-- `kindi::parameters` meets its contract: each set is the defined one, and well formed.
-- Assumes nothing.
use borrow.Author.Rules.{rules}
use Rattle.kindi.proofs.Sets.{sets}
use Rattle.kindi.proofs.parameters.Goals as goal

pub returns-in-1 : goal.returns-in-1
returns-in-1 c = search (rules, sets)

pub returns-in-2 : goal.returns-in-2
returns-in-2 c = search (rules, sets)

pub returns-in-3 : goal.returns-in-3
returns-in-3 c = search (rules, sets)

pub returns-in_default : goal.returns-in_default
returns-in_default c = search (rules, sets)

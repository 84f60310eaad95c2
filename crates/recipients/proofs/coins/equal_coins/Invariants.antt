-- `recipients::coins::equal_coins` meets its contract: after j turns it is known of the first j coins whether two of them are equal.
-- Assumes nothing.
use Rattle.keccak.specs.Lists.{tabulate}
use Rattle.kindi.specs.Answers.{same, some, part_at}
use Rattle.recipients.proofs.Places.{Gathering}
use Rattle.recipients.proofs.coins.equal_coins.Given as goal

abbrev pub invariant-loop-j : goal.invariant-loop-j
invariant-loop-j l = Gathering (λ m. some (tabulate m (λ i. same (part_at l.coins l.list i) (part_at l.coins l.list m)))) l.count l.j l.found

-- `recipients::coins::is_among` meets its contract: after i turns it is known of the first i coins whether one of them is this one.
-- Assumes nothing.
use lib.ListN.{length}
use Rattle.kindi.specs.Answers.{same, part_at}
use Rattle.recipients.proofs.Places.{Gathering}
use Rattle.recipients.proofs.coins.is_among.Given as goal

abbrev pub invariant-loop-i : goal.invariant-loop-i
invariant-loop-i l = Gathering (λ k. same (part_at (length l.one) l.list k) l.one) l.count l.i l.found

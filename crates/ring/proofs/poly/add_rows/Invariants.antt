-- `ring::poly::add_rows` meets its contract: after k turns the first k coefficients have their four terms.
-- Assumes nothing.
use Rattle.ring.specs.Terms.{add_four}
use Rattle.bits.proofs.Filling.{Filling}
use Rattle.ring.proofs.poly.add_rows.Given as goal

abbrev pub invariant-loop-k : goal.invariant-loop-k
invariant-loop-k l = Filling (add_four l.initial.acc l.row l.a l.b l.c l.d) l.initial.acc l.k l.acc

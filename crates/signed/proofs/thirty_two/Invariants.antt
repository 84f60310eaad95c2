-- `signed::thirty_two` meets its contract: after j turns j terms are added.
-- Assumes nothing.
use mathlib.Core.Path.{◌≡◌}
use Prim.Native.Nat.{◌+◌}
use Rattle.ring.specs.Poly.{sum}
use Rattle.ring.specs.Terms.{terms}
use Rattle.signed.proofs.thirty_two.Given as goal

abbrev pub invariant-loop-j : goal.invariant-loop-j
invariant-loop-j l = l.total ≡ sum l.j (λ j. terms l.a l.b (l.i + j))

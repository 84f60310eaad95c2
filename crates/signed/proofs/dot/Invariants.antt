-- `signed::dot` meets its contract: after the blocks one product a turn is added.
-- Assumes nothing.
use mathlib.Core.Path.{◌≡◌}
use Prim.Native.Nat.{◌≤◌}
use lib.ListN.{length}
use Rattle.ring.specs.Poly.{sum}
use Rattle.ring.specs.Terms.{terms}
use Rattle.signed.proofs.dot.Given as goal

abbrev pub invariant-loop-i : goal.invariant-loop-i
invariant-loop-i l = record { within : l.i ≤ length l.a; summed : l.total ≡ sum l.i (terms l.a l.b) }

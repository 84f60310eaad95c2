-- `signed::dot_blocks` meets its contract: after each turn the products up to i are added.
-- Assumes nothing.
use mathlib.Core.Path.{◌≡◌}
use mathlib.Core.List.{List}
use Prim.Native.Nat.{ℕ, ◌%◌, ◌≤◌}
use lib.IntN.{ℤ}
use lib.ListN.{length}
use Rattle.ring.specs.Poly.{sum}
use Rattle.ring.specs.Terms.{terms}
use Rattle.signed.proofs.dot_blocks.Given as goal

-- The products up to i are summed, and i is a multiple of 32.
pub record Blocks (a b : List ℤ) (i : ℕ) (total : ℤ) : Type 0 where
  pub within : i ≤ length a
  pub summed : total ≡ sum i (terms a b)
  pub whole : i % 32 ≡ 0

abbrev pub invariant-loop-i : goal.invariant-loop-i
invariant-loop-i l = Blocks l.a l.b l.i l.total

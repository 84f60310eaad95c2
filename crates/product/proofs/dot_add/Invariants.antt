-- `product::dot_add` meets its contract: after i turns the first i products are added.
-- Assumes nothing.
use mathlib.Core.Path.{◌≡◌}
use lib.ListN.{length}
use Rattle.product.specs.Dots.{with_dot}
use Rattle.product.proofs.dot_add.Given as goal

abbrev pub invariant-loop-i : goal.invariant-loop-i
invariant-loop-i l = record { long : length l.acc ≡ length l.initial.acc; are : l.acc ≡ with_dot l.i l.initial.acc l.f l.s }

-- `cipher_terms::add_products` meets its contract: before polynomial i the products before it are added.
-- Assumes nothing.
use mathlib.Core.Path.{◌≡◌}
use Rattle.cipher_terms.specs.Terms.{with_products}
use Rattle.cipher_terms.proofs.add_products.Given as goal

abbrev pub invariant-loop-i : goal.invariant-loop-i
invariant-loop-i l = l.d ≡ with_products l.p l.pk l.low l.s l.i l.initial.d

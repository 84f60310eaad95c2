-- `noise::sums::add_errors` meets its contract: before turn j the products before it are added.
-- Assumes nothing.
use mathlib.Core.Path.{◌≡◌}
use Rattle.kindi.specs.Streams.{small_in}
use Rattle.noise.proofs.Products.{partial}
use Rattle.noise.proofs.sums.add_errors.Given as goal

abbrev pub invariant-loop-j : goal.invariant-loop-j
invariant-loop-j l = l.acc ≡ partial l.p.n l.initial.acc (small_in l.p l.masked) (small_in l.p l.secrets) l.j

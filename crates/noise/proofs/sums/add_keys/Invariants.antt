-- `noise::sums::add_keys` meets its contract: before turn i the products before it are added.
-- Assumes nothing.
use mathlib.Core.Path.{◌≡◌}
use Rattle.kindi.specs.Streams.{ephemeral_by}
use Rattle.noise.specs.Terms.{key_noise_in}
use Rattle.noise.proofs.Products.{partial}
use Rattle.noise.proofs.sums.add_keys.Given as goal

abbrev pub invariant-loop-i : goal.invariant-loop-i
invariant-loop-i l =
    l.acc ≡ partial l.p.n l.initial.acc (key_noise_in l.p l.stream l.secrets l.b) (ephemeral_by l.p l.coins l.high l.rest) l.i

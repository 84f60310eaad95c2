-- `hash::sponge::Sponge::squeeze_part` meets its contract: the part is read from the string at the sponge's place.
-- Assumes nothing.
use mathlib.Core.Path.{◌≡◌}
use native.Mathlib.Omega.{arith}
use borrow.Author.Rules.{rules}
use lib.ListN.{length}
use Rattle.hash.proofs.Steps.{part-squeezed}
use Rattle.hash.proofs.sponge.Sponge.squeeze_part.Goals as goal

pub returns : goal.returns
returns c =
    let a = c.args in
    let long : length a.self.bytes ≡ 200 = search rules in
    part-squeezed a.self (length a.part.now) _ c.requires.0 (omega arith) c.copy_from_slice.ensures.after

-- `hash::sponge::Sponge::absorb_part` meets its contract: the part is added into the string at the sponge's place.
-- Assumes nothing.
use mathlib.Core.Path.{◌≡◌}
use borrow.Author.Rules.{rules}
use lib.ListN.{length}
use Rattle.hash.proofs.Steps.{part-absorbed}
use Rattle.hash.proofs.sponge.Sponge.absorb_part.Goals as goal

pub returns : goal.returns
returns c =
    let a = c.args in
    let long : length a.self.bytes ≡ 200 = search rules in
    part-absorbed a.self 200 c.xor_into.new.dst a.part.now long c.requires.0 c.xor_into.ensures

-- `keccak::rounds::rho_offsets` meets its contract: the rule is one computation over the whole table.
-- Assumes nothing.
use mathlib.Core.Path.{refl}
use borrow.Author.Rules.{rules}
use Rattle.keccak.specs.Keccak.{walk, walked, offset}
use Rattle.keccak.proofs.rounds.rho_offsets.Goals as goal

pub returns : goal.returns
unfolding walk walked offset
returns c =
    record { rule = refl; row0 = search rules; row1 = search rules; row2 = search rules; row3 = search rules; row4 = search rules }

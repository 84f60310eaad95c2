-- `keccak::strings::store_row` meets its contract: the string is filled lane by lane.
-- Assumes nothing.
use mathlib.Core.Path.{ap, ◌∙◌}
use native.Mathlib.Omega.{arith}
use borrow.Author.Rules.{rules}
use lib.ListN.{length}
use Rattle.keccak.proofs.Parts.{length_digits, parts_begun, parts_more, parts_all}
use Rattle.keccak.specs.Strings.{row_string}
use Rattle.keccak.proofs.strings.store_row.Goals as goal

pub loop-x-init : goal.loop-x-init
loop-x-init c = parts_begun (search rules) c.requires

pub loop-x-preserved : goal.loop-x-preserved
loop-x-preserved c =
    parts_more c.loop-x.invariant 0 (omega arith) (ap length c.store.ensures ∙ length_digits 8 8 _)
    c.store.ensures

pub returns : goal.returns
unfolding row_string
returns c = parts_all c.loop-x.invariant (omega arith)

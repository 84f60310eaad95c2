-- `keccak::strings::from_state` meets its contract: the string is filled row by row.
-- Assumes nothing.
use mathlib.Core.Path.{◌∙◌}
use mathlib.Core.List.{[]}
use Prim.Native.Nat.{ℕ}
use native.Mathlib.Omega.{arith}
use borrow.Author.Rules.{rules}
use lib.ListN.{length-take, length-drop, length-replicate}
use Rattle.keccak.specs.Strings.{from_state}
use Rattle.keccak.proofs.Parts.{parts_begun, parts_more, parts_all}
use Rattle.keccak.proofs.strings.from_state.Goals as goal

pub loop-y-init : goal.loop-y-init
loop-y-init c = parts_begun (search rules) (length-replicate {A = ℕ} 200 0)

pub loop-y-preserved : goal.loop-y-preserved
loop-y-preserved c =
    parts_more c.loop-y.invariant [] (omega arith) (c.store_row.auto.dst ∙ simp (length-take, length-drop) (omega arith))
    c.store_row.ensures

pub returns : goal.returns
unfolding from_state
returns c = parts_all c.loop-y.invariant (omega arith)

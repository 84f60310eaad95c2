-- `decryption_calls::padding::all_zero` meets its contract.
-- Assumes nothing.
use Rattle.std.proofs.Common.{rules, ◌≡◌, ℕ, Bool, true, List, [], ◌∷◌}
use Rattle.std.proofs.lemmas.Iterator.Consumers.{fold_from_yields_List}
use Rattle.std.proofs.lemmas.Iterator.{YieldsList-from_slice}
use Rattle.std.proofs.Math.Bool.{and_assoc, and-true}
use Rattle.std.specs.List.{fold}
use lib.Dec.{eqb}
use mathlib.Core.Path.{◌∙◌, sym}
use mathlib.Core.Bool.{◌&&◌}
use Rattle.decryption_calls.specs.Fitting.{all_zero}
use Rattle.decryption_calls.proofs.padding.all_zero.Goals as goal

-- Whether it holds before, and the next byte is 0.
abbrev both : Bool → ℕ → Bool
both all b = all && eqb b 0

-- What holds before stays, and what fails stays.
begun : (xs : List ℕ) (all : Bool) → fold both all xs ≡ (all && all_zero xs)
unfolding all_zero
begun [] all = sym (and-true all)
begun (x ∷ xs) all = begun xs (all && eqb x 0) ∙ and_assoc all (eqb x 0) (all_zero xs)

pub returns : goal.returns
returns c =
    fold_from_yields_List _ both true c.fold.result c.fold.ensures.ran
    (YieldsList-from_slice c.args.c.now (search rules))
    (λ all x r f h. search rules)
    ∙ begun c.args.c.now true

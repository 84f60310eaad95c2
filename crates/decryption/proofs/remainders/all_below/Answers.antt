-- `decryption::remainders::all_below` meets its contract.
-- Assumes nothing.
use Rattle.std.proofs.Common.{rules, ◌≡◌, ℕ, Bool, true, List, [], ◌∷◌}
use Rattle.std.proofs.Math.Bool.{and_assoc, and-true}
use Rattle.std.proofs.lemmas.Iterator.Consumers.{fold_from_yields_List}
use Rattle.std.proofs.lemmas.Iterator.{YieldsList-from_slice}
use Rattle.std.specs.List.{fold}
use mathlib.Core.Bool.{◌&&◌}
use mathlib.Core.Path.{◌∙◌, sym}
use lib.Dec.{ltb}
use Rattle.kindi.specs.Decrypt.{all_below}
use Rattle.decryption.proofs.remainders.all_below.Goals as goal

-- Whether it holds before, and the next entry is below the bound.
abbrev both : ℕ → Bool → ℕ → Bool
both bound all x = all && ltb x bound

-- What holds before stays, and what fails stays.
begun : (bound : ℕ) (xs : List ℕ) (all : Bool) → fold (both bound) all xs ≡ (all && all_below bound xs)
unfolding all_below
begun bound [] all = sym (and-true all)
begun bound (x ∷ xs) all = begun bound xs (all && ltb x bound) ∙ and_assoc all (ltb x bound) (all_below bound xs)

pub returns : goal.returns
returns c =
    fold_from_yields_List _ (both c.args.bound) true c.fold.result c.fold.ensures.ran (YieldsList-from_slice c.args.xs.now (search rules))
    (λ all x r f h. search rules)
    ∙ begun c.args.bound c.args.xs.now true

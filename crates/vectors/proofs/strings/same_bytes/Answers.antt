-- `vectors::strings::same_bytes` meets its contract.
-- Assumes nothing.
use Rattle.std.proofs.Common.{rules, ◌≡◌, length, ℕ, Bool, true, List, [], ◌∷◌}
use Rattle.std.proofs.lemmas.Iterator.Consumers.{fold_from_yields_List}
use Rattle.std.proofs.lemmas.Iterator.{YieldsList-from_slice, YieldsList-from_zip}
use Rattle.std.proofs.Math.Bool.{and_assoc, and-true}
use Rattle.std.specs.List.{fold, zip}
use lib.Dec.{eqb}
use mathlib.Core.Path.{◌∙◌, sym}
use native.Mathlib.Nat.{suc_inj}
use native.Mathlib.Omega.{arith}
use mathlib.Core.Bool.{◌&&◌}
use Rattle.kindi.specs.Answers.{same}
use Rattle.vectors.proofs.strings.same_bytes.Goals as goal

-- Whether it holds before, and the next two bytes are equal.
abbrev both : Bool → ℕ × ℕ → Bool
both all p = all && eqb p.0 p.1

-- What holds before stays, and what fails stays.
begun : (xs ys : List ℕ) (all : Bool) → length xs ≡ length ys
    → fold both all (zip xs ys) ≡ (all && same xs ys)
unfolding same
begun [] [] all e = sym (and-true all)
begun [] (y ∷ ys) all e = absurd (omega arith)
begun (x ∷ xs) [] all e = absurd (omega arith)
begun (x ∷ xs) (y ∷ ys) all e = begun xs ys (all && eqb x y) (suc_inj e) ∙ and_assoc all (eqb x y) (same xs ys)

pub returns : goal.returns
returns c =
    fold_from_yields_List _ both true c.fold.result c.fold.ensures.ran
    (YieldsList-from_zip (YieldsList-from_slice c.args.a.now (search rules)) (YieldsList-from_slice c.args.b.now (search rules)))
    (λ all x r f h. search rules)
    ∙ begun c.args.a.now c.args.b.now true c.requires

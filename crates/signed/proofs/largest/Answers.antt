-- `signed::largest` meets its contract: after i turns the largest of the first i numbers is known.
-- Assumes nothing.
use mathlib.Core.List.{List}
use mathlib.Core.Path.{◌≡◌, refl, sym, ap, ◌∙◌}
use Prim.Native.Nat.{ℕ, ◌+◌, ◌<◌, max}
use native.Mathlib.Numerals.{add-one}
use native.Mathlib.Omega.{arith}
use lib.IntN.{ℤ, pos, nat_abs}
use lib.ListN.{length, get_or, take}
use mir.Syntax.{w32}
use mir.ValLaws.{to_z-of_z}
use Rattle.std.proofs.lemmas.Bool.Decides.{nat_tests}
use Rattle.ring.proofs.Sizes.{largest_more}
use Rattle.ring.specs.Integers.{largest}
use Rattle.keccak.proofs.Loops.{carried_list}
use Rattle.signed.proofs.largest.Goals as goal

-- The largest of one entry more.
larger : (xs : List ℤ) (i : ℕ) {m n : ℕ} → i < length xs → m ≡ largest (take i xs) → n ≡ max m (nat_abs (get_or xs i (pos 0)))
    → n ≡ largest (take (i + 1) xs)
larger xs i {m} {n} in-it before is =
    is ∙ ap (λ (k : ℕ). max k (nat_abs (get_or xs i (pos 0)))) before ∙ rw add-one (sym (largest_more xs i (pos 0) in-it))

pub loop-x-init : goal.loop-x-init
unfolding largest
loop-x-init c = record { within = omega arith; is = refl }

pub loop-x-preserved : goal.loop-x-preserved
loop-x-preserved c =
    let xs = c.args.xs.now in
    let i = c.loop-x.x-index in
    let size : c.unsigned_abs.result ≡ nat_abs (get_or xs i (pos 0)) =
    c.unsigned_abs.ensures.value ∙ ap nat_abs (to_z-of_z w32 (get_or xs i (pos 0)) (record { sfits = omega arith }))
    in
    record {
      within = omega arith;
      is = larger xs i (omega arith) c.loop-x.invariant.is (rw (← size) (grind (arith, nat_tests)));
    }

pub returns : goal.returns
returns c = carried_list c.args.xs.now largest c.loop-x.invariant (omega arith)

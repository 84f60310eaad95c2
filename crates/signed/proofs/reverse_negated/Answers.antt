-- `signed::reverse_negated` meets its contract: after k turns the first k entries of the list that is turned round are negated.
-- Assumes nothing.
use mathlib.Core.Path.{◌≡◌, ap, ◌∙◌}
use mathlib.Core.List.{List}
use Prim.Native.Nat.{ℕ, ◌-◌, ◌<◌}
use native.Mathlib.Nat.{lt_of_le_of_lt}
use native.Mathlib.Omega.{arith}
use lib.IntN.{ℤ, pos, nat_abs, neg_ℤ, ◌-ℤ◌, +ℤ_idl}
use lib.ListN.{length, get_or}
use mir.Syntax.{w16}
use mir.Val.{SFits, to_z, of_z}
use mir.ValLaws.{to_z-of_z}
use Rattle.keccak.proofs.Entries.{tabulate_at}
use Rattle.ring.proofs.Integers.{nat_abs_neg}
use Rattle.ring.proofs.Sizes.{le-largest, fits_abs}
use Rattle.ring.specs.Integers.{largest}
use Rattle.ring.specs.Poly.{of_ints}
use Rattle.ring.specs.Terms.{backwards}
use Rattle.bits.proofs.Filling.{Filling, filling_at, filling_more}
use Rattle.signed.proofs.reverse_negated.Goals as goal

-- Entry i negated, in a list of which no entry is the least word.
module _ (src : List ℤ) (i : ℕ) (small : largest src < 32768) where
  size : nat_abs (of_ints src i) < 32768
  size = lt_of_le_of_lt (le-largest src i) small

  negative : pos 0 -ℤ to_z w16 (of_z w16 (of_ints src i)) ≡ neg_ℤ (of_ints src i)
  negative = ap (λ (z : ℤ). pos 0 -ℤ z) (to_z-of_z w16 (of_ints src i) (fits_abs w16 (of_ints src i) size)) ∙ +ℤ_idl (neg_ℤ (of_ints src i))

  negative_fits : SFits w16 (neg_ℤ (of_ints src i))
  negative_fits = fits_abs w16 (neg_ℤ (of_ints src i)) (rw nat_abs_neg size)

  fits : SFits w16 (pos 0 -ℤ to_z w16 (of_z w16 (of_ints src i)))
  fits = rw negative negative_fits

  value : to_z w16 (of_z w16 (pos 0 -ℤ to_z w16 (of_z w16 (of_ints src i)))) ≡ neg_ℤ (of_ints src i)
  value = ap (λ (z : ℤ). to_z w16 (of_z w16 z)) negative ∙ to_z-of_z w16 (neg_ℤ (of_ints src i)) negative_fits

-- An entry that is not yet negated.
entry : (src : List ℤ) {f : ℕ → ℤ} {ys : List ℤ} {k : ℕ} → k < length src → Filling f (backwards src) k ys
    → get_or ys k (pos 0) ≡ of_ints src (length src - 1 - k)
entry src {k = k} h filling =
    filling_at (pos 0) filling (omega arith) ∙ tabulate_at (length src) (λ i. of_ints src (length src - 1 - i)) k (pos 0) h

pub overflow_sub-x : goal.overflow_sub-x
overflow_sub-x c =
    let src = c.args.src.now in
    rw (entry src (omega arith) c.loop-x.invariant) (fits src (length src - 1 - c.loop-x.x-index) c.requires.1)

pub loop-x-preserved : goal.loop-x-preserved
loop-x-preserved c =
    let src = c.args.src.now in
    filling_more (pos 0) c.loop-x.invariant (omega arith)
    (ap (λ (z : ℤ). to_z w16 (of_z w16 (pos 0 -ℤ to_z w16 (of_z w16 z)))) (entry src (omega arith) c.loop-x.invariant)
    ∙ value src (length src - 1 - c.loop-x.x-index) c.requires.1)

-- How a call ends: what the number of an answer says, and the outputs and the work area after a refusal and after success.
-- Assumes nothing.
use mathlib.Core.Path.{◌≡◌, refl, sym}
use mathlib.Core.Bool.{Bool, true, false, cond, not, ◌&&◌}
use mathlib.Core.List.{List}
use Prim.Native.Nat.{ℕ, ◌≤◌, ◌<◌}
use native.Mathlib.Omega.{arith}
use borrow.Author.Tests.{leb-true, leb-false, le-ltb, lt-ltb, le-leb, lt-leb}
use lib.Dec.{leb, ltb}
use lib.ListN.{length, replicate}
use Rattle.kindi.specs.Params.{is_set}
use Rattle.kindi.specs.Answers.{Answer, refused, answered, refuse_if}
use Rattle.kindi.specs.Calls.{number, output, work_after}

-- ---- checks

-- The number of a chain is its first check's where that fails.
pub number_check : {A : Type 0} (bad : Bool) (n : ℕ) (next : Answer A) → number (refuse_if bad n next) ≡ cond bad n (number next)
unfolding number refuse_if
number_check true n next = refl
number_check false n next = refl

-- Two tests in one check are two checks of one number.
pub check_both : (a b : Bool) (n rest : ℕ) → cond (not (a && b)) n rest ≡ cond (not a) n (cond (not b) n rest)
check_both true b n rest = refl
check_both false b n rest = refl

-- What is not at least a is below it.
not-leb : (a b : ℕ) (t : Bool) → leb a b ≡ t → not t ≡ ltb b a
not-leb a b true e = sym (le-ltb b a (leb-true a b e))
not-leb a b false e = sym (lt-ltb b a (leb-false a b e))

pub too_short : (a b : ℕ) → not (leb a b) ≡ ltb b a
too_short a b = not-leb a b (leb a b) refl

-- A chain whose number is 0: its first check passes, so it is the rest of it, whose number is 0.
pub record Accepted {A : Type 0} (bad : Bool) (n : ℕ) (next : Answer A) : Type 0 where
  pub good : bad ≡ false
  pub is : refuse_if bad n next ≡ next
  pub rest : number next ≡ 0

pub accepted : {A : Type 0} (bad : Bool) (n : ℕ) (next : Answer A) → 0 < n → number (refuse_if bad n next) ≡ 0 → Accepted bad n next
unfolding number refuse_if
accepted true n next some e = absurd (omega arith)
accepted false n next some e = record { good = refl; is = refl; rest = e }

-- ---- outputs

-- A refusal leaves a buffer as it was.
pub unchanged : {A : Type 0} (a : Answer A) (value : A → List ℕ) (entry : List ℕ) → (number a ≡ 0 → ⊥) → entry ≡ output a value entry
unfolding number output
unchanged (refused n) value entry h = refl
unchanged (answered x) value entry h = absurd (h refl)

-- Success gives it its value.
pub given : {A : Type 0} {a : Answer A} {x : A} (value : A → List ℕ) (entry : List ℕ) → a ≡ answered x → value x ≡ output a value entry
unfolding output
given value entry e = rw e

-- ---- the work area

and-false : (b : Bool) → b && false ≡ false
and-false true = refl
and-false false = refl

-- A work area stays as it was where there is no such set.
pub no_set : (set need : ℕ) (entry : List ℕ) → is_set set ≡ false → entry ≡ work_after set need entry
unfolding work_after
no_set set need entry e = rw e

-- So does one that is too short.
pub short_work : (set need : ℕ) (entry : List ℕ) → length entry < need → entry ≡ work_after set need entry
unfolding work_after
short_work set need entry h = rw (lt-leb need (length entry) h, and-false (is_set set))

-- Any other is all zeros.
pub work_wiped : (set need : ℕ) (entry : List ℕ) → is_set set ≡ true → need ≤ length entry → replicate (length entry) 0 ≡ work_after set need entry
unfolding work_after
work_wiped set need entry s h = rw (s, le-leb need (length entry) h)

-- So nothing of what is wiped matters but its length.
pub wiped_any : (set need : ℕ) (left entry : List ℕ) → is_set set ≡ true → need ≤ length entry → length left ≡ length entry
    → work_after set need left ≡ work_after set need entry
unfolding work_after
wiped_any set need left entry s h l = rw (l, s, le-leb need (length entry) h)

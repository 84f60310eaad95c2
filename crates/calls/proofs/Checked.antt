-- Answers of calls whose checks go on after the lengths: what the status of the checks that are made says of the answer, and
-- what is read off it then. Assumes nothing.
use mathlib.Core.Path.{◌≡◌, refl}
use mathlib.Core.Bool.{Bool, true, false, cond}
use mathlib.Core.List.{List}
use Prim.Native.Nat.{ℕ, ◌<◌}
use native.Mathlib.Omega.{arith}
use Rattle.kindi.specs.Answers.{Answer, refused, answered, refuse_if, then}
use Rattle.kindi.specs.Calls.{number, output, returned}

-- An answer after checks whose status is s: refused with s where that is not 0, else what comes next.
pub record Checked {A : Type 0} (answer next : Answer A) (s : ℕ) : Type 0 where
  pub refuses : (s ≡ 0 → ⊥) → answer ≡ refused s
  pub goes_on : s ≡ 0 → answer ≡ next

-- No check.
pub unchecked : {A : Type 0} {next : Answer A} → Checked next next 0
unchecked = record { refuses = λ h. absurd (h refl); goes_on = λ e. refl }

-- One check in front; what comes after it may rest on its having passed.
pub check_before : {A : Type 0} (bad : Bool) (n : ℕ) {answer next : Answer A} {s : ℕ} → 0 < n → (bad ≡ false → Checked answer next s)
    → Checked (refuse_if bad n answer) next (cond bad n s)
unfolding refuse_if
check_before true n some c = record { refuses = λ h. refl; goes_on = λ e. absurd (omega arith) }
check_before false n some c = c refl

pub check_first : {A : Type 0} (bad : Bool) (n : ℕ) {answer next : Answer A} {s : ℕ} → 0 < n → Checked answer next s
    → Checked (refuse_if bad n answer) next (cond bad n s)
check_first bad n some c = check_before bad n some (λ _. c)

-- What comes after a chain comes after each of its checks.
pub then_check : {A B : Type 0} (bad : Bool) (n : ℕ) (first : Answer A) (next : A → Answer B)
    → then (refuse_if bad n first) next ≡ refuse_if bad n (then first next)
unfolding then refuse_if
then_check true n first next = refl
then_check false n first next = refl

pub then_next : {A B : Type 0} (a : A) (next : A → Answer B) → then (answered a) next ≡ next a
unfolding then
then_next a next = refl

-- A status of 0: the first check passes, and the status of the others is 0.
pub zero_check : (bad : Bool) (n : ℕ) {rest : ℕ} → 0 < n → cond bad n rest ≡ 0 → (bad ≡ false) × (rest ≡ 0)
zero_check true n some e = absurd (omega arith)
zero_check false n some e = (refl, e)

-- ---- what is read off an answer

-- The number of a refusal, and of success.
pub refused_number : {A : Type 0} {a : Answer A} {s : ℕ} → a ≡ refused s → s ≡ number a
unfolding number
refused_number e = rw e

pub answered_number : {A : Type 0} {a : Answer A} {x : A} → a ≡ answered x → 0 ≡ number a
unfolding number
answered_number e = rw e

-- A refusal leaves a buffer as it was, and returns 0.
pub refused_output : {A : Type 0} {a : Answer A} {s : ℕ} (value : A → List ℕ) (entry : List ℕ) → a ≡ refused s → entry ≡ output a value entry
unfolding output
refused_output value entry e = rw e

pub refused_returned : {A : Type 0} {a : Answer A} {s : ℕ} (value : A → ℕ) → a ≡ refused s → 0 ≡ returned a value
unfolding returned
refused_returned value e = rw e

-- Success returns its value.
pub given_returned : {A : Type 0} {a : Answer A} {x : A} (value : A → ℕ) → a ≡ answered x → value x ≡ returned a value
unfolding returned
given_returned value e = rw e

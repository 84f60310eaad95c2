-- What the calls over bodies ask and leave: room for the outputs of every set, and each lent buffer at exit. A primed name is a
-- buffer at exit. Rests on Bodies, the refusals of `calls` and the struct `Output` of src/.
use Rattle.std.specs.Prelude.{◌≡◌, List, ◌++◌, cond, not, ◌&&◌, ◌||◌, ℕ, ◌≤◌, eqb, length, drop, replicate, Result}
use Rattle.kindi.specs.declared.Params.{Params}
use Rattle.kindi.specs.Params.{is_set, of_set, keygen_work, encrypt_work, decrypt_work}
use Rattle.kindi.specs.Answers.{Answer}
use Rattle.kindi.specs.Calls.{number, output, returned}
use Rattle.calls.specs.declared.refusal.Refusal.{Refusal}
use Rattle.calls.specs.Refusals.{status_of, value_of}
use Rattle.record_calls.specs.declared.Output.{Output}
use Rattle.record_calls.specs.Bodies.{Parts, wrong_length, record_parts}

-- The most bytes of an output's first and second part, over all parameters that are well formed.
abbrev pub first_most : ℕ
first_most = 4096

abbrev pub second_most : ℕ
second_most = 5120

-- Room for the two parts, and a work area as long as 01 lets any be.
pub record Room (first second work : List ℕ) : Type 0 where
  pub first_long : first_most ≤ length first
  pub second_long : second_most ≤ length second
  pub work_long : 65536 ≤ length work

-- What a call answered: its status, and how many bytes of its output stand in the first and in the second buffer.
pub record Outcome : Type 0 where
  pub status : ℕ
  pub first : ℕ
  pub second : ℕ

-- What a result says: a refusal has no output.
abbrev pub outcome_of : Result Output Refusal → Outcome
outcome_of r = record { status = status_of r; first = value_of (λ o. o.first) r; second = value_of (λ o. o.second) r }

-- The outcome of a status and two lengths, which count where it is 0.
pub record OutcomeOf (status first second : ℕ) (r : Outcome) : Type 0 where
  pub status_is : r.status ≡ status
  pub first_is : r.first ≡ cond (eqb status 0) first 0
  pub second_is : r.second ≡ cond (eqb status 0) second 0

-- A buffer with these bytes at its front, and behind them as it was.
unfoldable pub with_front : List ℕ → List ℕ → List ℕ
with_front bytes buffer = bytes ++ drop (length bytes) buffer

-- The first buffer at exit: the first part at its front; a refusal leaves it as it was.
unfoldable pub first_after : Answer Parts → List ℕ → List ℕ
first_after answer first = output answer (λ parts. with_front parts.first first) first

-- The second: the second part and its zeros.
unfoldable pub second_after : Answer Parts → List ℕ → List ℕ
second_after answer second = output answer (λ parts. with_front (parts.second ++ replicate parts.zeros 0) second) second

-- The bytes of the work area that a kind's call is lent.
unfoldable pub work_bytes : ℕ → Params → ℕ
work_bytes kind P = cond (eqb kind 1) (keygen_work P) (cond (eqb kind 2 || eqb kind 4) (encrypt_work P) (decrypt_work P))

-- The work area at exit: what the call was lent is zeros, whatever it answers; where the set or the body's length is refused there
-- is no call, and it is as it was.
unfoldable pub record_work : ℕ → ℕ → List ℕ → List ℕ → List ℕ
record_work kind set body work =
    cond (is_set set && not (wrong_length kind (of_set set) (length body))) (with_front (replicate (work_bytes kind (of_set set)) 0) work) work

-- A call has given an answer: its number, the lengths of the parts, which are 0 after a refusal, and the three buffers; `wiped` is
-- what the work area has to be.
pub record Gives (answer : Answer Parts) (wiped first second : List ℕ) (r : Outcome) (first' second' work' : List ℕ) : Type 0 where
  pub status_is : r.status ≡ number answer
  pub first_length : r.first ≡ returned answer (λ parts. length parts.first)
  pub second_length : r.second ≡ returned answer (λ parts. length parts.second)
  pub first_is : first' ≡ first_after answer first
  pub second_is : second' ≡ second_after answer second
  pub work_is : work' ≡ wiped
  pub first_fits : r.first ≤ first_most
  pub second_fits : r.second ≤ second_most

-- What the call of a kind leaves: the answer to its record, and the work area.
abbrev pub AnswerExit : ℕ → ℕ → List ℕ → List ℕ → List ℕ → List ℕ → Outcome → List ℕ → List ℕ → List ℕ → Type 0
AnswerExit kind set body first second work = Gives (record_parts kind set body) (record_work kind set body work) first second

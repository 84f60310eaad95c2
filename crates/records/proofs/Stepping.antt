-- What each case of a step leaves. Assumes nothing.
use mathlib.Core.Path.{◌≡◌, refl, sym, ap, ◌∙◌}
use mathlib.Core.Bool.{Bool, true, false, cond, not, ◌&&◌}
use mathlib.Core.List.{List, [], ◌++◌, append-nil}
use mathlib.Core.Logic.{◌⊎◌, inl, inr}
use Prim.Native.Nat.{ℕ, ◌+◌, ◌-◌}
use native.Mathlib.Numerals.{add-one}
use native.Mathlib.Omega.{arith}
use lib.Dec.{leb}
use lib.ListN.{length, take, drop, replicate, length-replicate}
use Rattle.std.specs.Prelude.{Some, Result, Ok, Err}
use Rattle.kindi.specs.Params.{is_set, of_set}
use Rattle.kindi.specs.Answers.{Answer, refused}
use Rattle.kindi.specs.Calls.{number, output}
use Rattle.kindi.proofs.Chains.{never}
use Rattle.lines.specs.Line.{kind_field, field_of, line, Written}
use Rattle.record_calls.specs.Bodies.{wrong_length, record_parts, joined, record_answer}
use Rattle.record_calls.specs.Outputs.{Outcome, with_front, work_bytes, record_work, AnswerExit}
use Rattle.record_calls.proofs.Outcomes.{gives_output, joined_number}
use Rattle.records.specs.declared.header.Header.{Header}
use Rattle.records.specs.declared.header.Unread.{Unread}
use Rattle.records.specs.declared.header.Unread.TheVariants.{End, Short, Unmarked, Cut, Unknown}
use Rattle.records.specs.declared.step.Stepped.{Stepped}
use Rattle.records.specs.Header.{header_number, read_header}
use Rattle.records.specs.Record.{finished, stopped, answers, step_by, step, step_line, done_after, consumed, reading_ends}
use Rattle.records.specs.Steps.{LineExit, buffer_by, step_first, step_second, step_work, StepExit}

-- What is returned where nothing more is read: how many records have been answered, and the place after the line.
abbrev pub over : ℕ → ℕ → Stepped
over done at = record { done = done; at = at; consumed = 0; ended = true }

-- What is returned after a record that was answered: one record more, the place after its line, and how many bytes it has.
abbrev pub answered : ℕ → ℕ → ℕ → Stepped
answered done at size = record { done = done + 1; at = at; consumed = size; ended = leb 65535 (done + 1) }

module _ {done : ℕ} {out : List ℕ} {at : ℕ} {r : Stepped} where
  -- The end of the input: nothing is written.
  finished_exit : r ≡ over done at → LineExit done finished out at r out
  unfolding step_line done_after consumed reading_ends
  finished_exit e = rw e record {
    written = record { next_is = omega arith; stands = sym (append-nil (take at out)); behind = refl };
    done_is = refl;
    consumed_is = refl;
    ends = refl;
  }

  module _ {next : ℕ} {out' : List ℕ} where
    -- A refusal with no kind.
    pub stopped_exit : {status : ℕ} → r ≡ over (done + 1) next
        → Written out at (line (done + 1) (kind_field false 0) status []) next out' → LineExit done (stopped status) out at r out'
    unfolding step_line done_after consumed reading_ends
    stopped_exit e w = rw e record { written = rw add-one at w; done_is = add-one done; consumed_is = refl; ends = refl }

    -- A record that is answered.
    answers_exit : {kind : ℕ} (answer : Answer (List ℕ)) {size : ℕ}
        → r ≡ answered done next size
        → Written out at (line (done + 1) (kind_field true kind) (number answer) (output answer (λ o. o) [])) next out'
        → LineExit done (answers kind answer size) out at r out'
    unfolding step_line done_after consumed reading_ends
    answers_exit answer e w =
        rw e record { written = rw add-one at w; done_is = add-one done; consumed_is = refl; ends = ap (leb 65535) (add-one done) }

-- A test is not both true and false.
pub never_true : {A : Type 0} → true ≡ false → A
never_true e = never (ap (λ (b : Bool). cond b 0 1) e)

-- A header that is not whole gives the same whatever is left.
step-any : (rest : List ℕ) (unread : Unread) → step_by [] (Err unread) ≡ step_by rest (Err unread)
unfolding step_by
step-any rest End = refl
step-any rest Short = refl
step-any rest Unmarked = refl
step-any rest Cut = refl
step-any rest (Unknown kind body) = refl

-- ---- the work area

-- What a call leaves of the work area: zeros at its front, and behind them what it was.
call_zeros : (called : Bool) (n : ℕ) (work : List ℕ) → (k : ℕ) × (cond called (with_front (replicate n 0) work) work ≡ replicate k 0 ++ drop k work)
unfolding with_front
call_zeros true n work = (n, rw (length-replicate {A = ℕ} n 0) refl)
call_zeros false n work = (0, refl)

-- What a step leaves of it, by its header: the same.
zeros_by : (rest work : List ℕ) (header : Result Header Unread)
    → (k : ℕ) × (buffer_by record_work rest work header ≡ replicate k 0 ++ drop k work)
unfolding buffer_by record_work
zeros_by rest work (Ok h) =
    let P = of_set h.set in
    call_zeros (is_set h.set && not (wrong_length h.kind P (length (take h.body (drop 6 rest))))) (work_bytes h.kind P) work
zeros_by rest work (Err unread) = (0, refl)

-- And by what is left.
pub step_zeros : (rest work : List ℕ) → (k : ℕ) × (step_work rest work ≡ replicate k 0 ++ drop k work)
unfolding step_work
step_zeros rest work = zeros_by rest work (read_header rest)

-- ---- a step

module _ {done at : ℕ} {out : List ℕ} {r : Stepped} where
  -- The arms of `refuse`: the end of the input, and a kind that there is not.
  pub end_exit : r ≡ over done at → LineExit done (step_by [] (Err End)) out at r out
  unfolding step_by
  end_exit e = finished_exit e

  pub unknown_exit : (kind body : ℕ) {next : ℕ} {out' : List ℕ} → r ≡ answered done next (6 + body)
      → Written out at (line (done + 1) (field_of (Some kind)) 12 []) next out'
      → LineExit done (step_by [] (Err (Unknown kind body))) out at r out'
  unfolding step_by number output
  unknown_exit kind body e w = answers_exit (refused 12) e w

  -- And the refusals after which reading ends.
  pub ended_exit : {unread : Unread} {status : ℕ} {out' : List ℕ} → (unread ≡ Short) ⊎ ((unread ≡ Unmarked) ⊎ (unread ≡ Cut))
      → status ≡ header_number (Err unread) → LineExit done (stopped status) out at r out' → LineExit done (step_by [] (Err unread)) out at r out'
  unfolding step_by
  ended_exit (inl is) e x = rw is (rw (e, is) at x)
  ended_exit (inr (inl is)) e x = rw is (rw (e, is) at x)
  ended_exit (inr (inr is)) e x = rw is (rw (e, is) at x)

  -- The refusal of a header that is not whole is the step; no call is made.
  pub refused_exit : (rest : List ℕ) {unread : Unread} {out' first second work : List ℕ} → Err unread ≡ read_header rest
      → LineExit done (step_by [] (Err unread)) out at r out' → StepExit done rest out at first second work r out' first second work
  unfolding step step_first step_second step_work buffer_by
  refused_exit rest {unread} e x = record {
    line = rw (← e, ← step-any rest unread) x;
    first_is = rw (← e) refl;
    second_is = rw (← e) refl;
    work_is = rw (← e) refl;
  }

  -- A whole header: its record's answer is the step, and its call leaves the buffers.
  pub whole_exit : (rest : List ℕ) {h : Header} {first second work first' second' work' : List ℕ} {o : Outcome} {next : ℕ}
      {out' : List ℕ} → Ok h ≡ read_header rest
      → AnswerExit h.kind h.set (take (6 + h.body - 6) (drop 6 rest)) first second work o first' second' work'
      → Written out at (line (done + 1) (field_of (Some h.kind)) o.status (take o.first first' ++ take o.second second')) next out'
      → r ≡ answered done next (6 + h.body)
      → StepExit done rest out at first second work r out' first' second' work'
  unfolding step step_by step_first step_second step_work buffer_by record_answer
  whole_exit rest {h} e g w new =
      let width : 6 + h.body - 6 ≡ h.body = omega arith in
      let parts = record_parts h.kind h.set (take h.body (drop 6 rest)) in
      let given = rw width at g in
      let text = rw (given.status_is ∙ sym (joined_number parts), gives_output parts given) at w in
      let read : read_header rest ≡ Ok h = sym e in
      record {
        line = rw read (answers_exit (joined parts) new text);
        first_is = rw read given.first_is;
        second_is = rw read given.second_is;
        work_is = rw read given.work_is;
      }

-- Laws of windows: what is left is moved to the front byte by byte; a window that shows its record gives the step of the whole
-- rest. Assumes nothing.
use mathlib.Core.Path.{◌≡◌, refl, sym, ap, ◌∙◌}
use mathlib.Core.Bool.{Bool, true, false, cond, not, ◌||◌}
use mathlib.Core.List.{List, ◌++◌}
use mathlib.Core.Logic.{inl, ⊎_elim}
use Prim.Native.Nat.{ℕ, ◌+◌, ◌-◌, ◌≤◌, ◌<◌}
use native.Mathlib.Nat.{zero-add}
use native.Mathlib.Omega.{arith}
use borrow.Author.Tests.{le-leb, le-ltb, ne_eqb, ltb-false, leb-true}
use lib.ListN.{length, take, drop, get_or, set, length-drop, length-append, get_or-append, take-append-drop}
use lib.Dec.{eqb, leb, ltb}
use lib.Seq.{take-append-le, drop-append-le}
use Rattle.std.specs.Prelude.{Result, Ok, Err}
use Rattle.std.specs.List.{copy_within}
use Rattle.kindi.proofs.Chains.{both}
use Rattle.record_calls.specs.Bodies.{record_answer}
use Rattle.record_calls.specs.Outputs.{record_work}
use Rattle.records.specs.declared.header.Header.{Header}
use Rattle.records.specs.declared.header.Unread.{Unread}
use Rattle.records.specs.declared.header.Unread.TheVariants.{End, Short, Unmarked, Cut, Unknown}
use Rattle.records.specs.Header.{header_length, longest_body, is_marked, kind_of, set_of, body_length, is_cut, is_kind}
use Rattle.records.specs.Header.{read_header, shows_record}
use Rattle.records.specs.Record.{answers, step_by, step, consumed}
use Rattle.records.specs.Steps.{buffer_by, step_first, step_second, step_work}
use Rattle.records.specs.Transcript.{Window}
use Rattle.records.proofs.Headers.{whole_there, unknown_there}

-- ---- moving to the front

-- What was copied to the front, in the words of `to_front`.
pub moved_front : (buffer : List ℕ) (from to : ℕ)
    → copy_within buffer from to 0 ≡ take (to - from) (drop from buffer) ++ drop (to - from) buffer
moved_front buffer from to = simp zero-add

-- ---- what a window shows

-- The body is over the longest or it is there, in a window of the longest record.
over-or_there : (over : Bool) (body len : ℕ) → ltb 8192 body ≡ over → 8198 ≤ len → over || leb (6 + body) len ≡ true
over-or_there true body len e long = refl
over-or_there false body len e long = le-leb (6 + body) len (omega (arith, ltb-false 8192 body e))

or-true : (b : Bool) → b || true ≡ true
or-true true = refl
or-true false = refl

-- A window of the longest record, or longer, shows its record.
pub longest_shown : (window : List ℕ) → header_length + longest_body ≤ length window → shows_record window ≡ true
unfolding shows_record
longest_shown window h =
    let there = over-or_there (ltb 8192 (body_length window)) (body_length window) (length window) refl h in
    simp (le-leb 6 (length window) (omega arith), there, or-true)

-- ---- a window and what follows it

-- The header by its fields and what is left: the checks after that of the mark, and all.
abbrev after_mark : ℕ → ℕ → ℕ → ℕ → Result Header Unread
after_mark left kind set body =
    cond (is_cut left body) (Err Cut)
    (cond (not (is_kind kind)) (Err (Unknown kind body)) (Ok (record { kind = kind; set = set; body = body })))

abbrev header_by : ℕ → Bool → ℕ → ℕ → ℕ → Result Header Unread
header_by left marked kind set body =
    cond (eqb left 0) (Err End)
    (cond (ltb left 6) (Err Short) (cond (not marked) (Err Unmarked) (after_mark left kind set body)))

-- More of what is left changes nothing, once the record is shown: the checks of the mark, the length and the kind, and all checks.
same_checks : (left more : ℕ) (marked over : Bool) (kind set body : ℕ) → ltb 8192 body ≡ over
    → not marked || (over || leb (6 + body) left) ≡ true
    → cond (not marked) (Err Unmarked) (after_mark (left + more) kind set body)
    ≡ cond (not marked) (Err Unmarked) (after_mark left kind set body)
same_checks left more false over kind set body e s = refl
same_checks left more true true kind set body e s = simp e
same_checks left more true false kind set body e s =
    let there = leb-true (6 + body) left s in
    simp (le-ltb (left + more) (6 + body) (omega arith), le-ltb left (6 + body) there)

longer : (left more : ℕ) (marked over : Bool) (kind set body : ℕ) → ltb 8192 body ≡ over → 6 ≤ left
    → not marked || (over || leb (6 + body) left) ≡ true → header_by (left + more) marked kind set body ≡ header_by left marked kind set body
longer left more marked over kind set body e h s =
    simp (ne_eqb (left + more) 0 (omega arith), le-ltb (left + more) 6 (omega arith), ne_eqb left 0 (omega arith), le-ltb left 6 h)
    (same_checks left more marked over kind set body e s)

module _ (window more : List ℕ) where
  -- A window that shows its record has the header of the whole rest.
  pub shown_header : shows_record window ≡ true → read_header (window ++ more) ≡ read_header window
  unfolding shows_record read_header
  shown_header e =
      let shown = both _ _ e in
      let h : 6 ≤ length window = leb-true 6 (length window) shown.0 in
      let at : (i : ℕ) → i < 6 → get_or (window ++ more) i 0 ≡ get_or window i 0 = λ i l. get_or-append window more 0 i (omega arith) in
      let over = ltb 8192 (body_length window) in
      rw (length-append window more, at 0 (omega arith), at 1 (omega arith), at 2 (omega arith))
      (rw (at 3 (omega arith), at 4 (omega arith), at 5 (omega arith))
      (longer (length window) (length more) (is_marked window) over (kind_of window) (set_of window) (body_length window) refl h shown.1))

  -- Its body is there.
  same_body : (body : ℕ) → 6 + body ≤ length window → take body (drop 6 (window ++ more)) ≡ take body (drop 6 window)
  same_body body h =
      ap (take body) (drop-append-le 6 window more (omega arith))
      ∙ take-append-le body (drop 6 window) more (simp length-drop (omega arith))

  same_step : (header : Result Header Unread) → header ≡ read_header window → step_by (window ++ more) header ≡ step_by window header
  unfolding step_by
  same_step (Ok h) e =
      ap (λ (bytes : List ℕ). answers h.kind (record_answer h.kind h.set bytes) (6 + h.body)) (same_body h.body (whole_there window e))
  same_step (Err End) e = refl
  same_step (Err Short) e = refl
  same_step (Err Unmarked) e = refl
  same_step (Err Cut) e = refl
  same_step (Err (Unknown kind body)) e = refl

  -- And gives its step.
  pub shown_step : shows_record window ≡ true → step (window ++ more) ≡ step window
  unfolding step
  shown_step e = ap (step_by (window ++ more)) (shown_header e) ∙ same_step (read_header window) refl

  same_buffer : (after : ℕ → ℕ → List ℕ → List ℕ → List ℕ) (entry : List ℕ) (header : Result Header Unread)
      → header ≡ read_header window → buffer_by after (window ++ more) entry header ≡ buffer_by after window entry header
  unfolding buffer_by
  same_buffer after entry (Ok h) e =
      ap (λ (bytes : List ℕ). after h.kind h.set bytes entry) (same_body h.body (whole_there window e))
  same_buffer after entry (Err unread) e = refl

  -- And leaves a buffer of the call as it does.
  shown_buffer : (after : ℕ → ℕ → List ℕ → List ℕ → List ℕ) (entry : List ℕ) → shows_record window ≡ true
      → buffer_by after (window ++ more) entry (read_header (window ++ more)) ≡ buffer_by after window entry (read_header window)
  shown_buffer after entry e =
      ap (buffer_by after (window ++ more) entry) (shown_header e) ∙ same_buffer after entry (read_header window) refl

-- What a window that shows its record gives, whatever follows it, any window gives of the whole rest.
of_rest : {A : Type 0} (f : List ℕ → A) (window rest : List ℕ)
    → ((more : List ℕ) → shows_record window ≡ true → f (window ++ more) ≡ f window) → Window window rest → f window ≡ f rest
of_rest f window rest same w =
    ⊎_elim
    (λ e.
    let whole : window ++ drop (length window) rest ≡ rest
    = ap (λ (l : List ℕ). l ++ drop (length window) rest) w.front ∙ take-append-drop (length window) rest in
    sym (same (drop (length window) rest) e) ∙ ap f whole)
    (λ e. ap f e) w.enough

-- A window gives the step of the whole rest.
pub window_step : (window rest : List ℕ) → Window window rest → step window ≡ step rest
window_step window rest = of_rest step window rest (shown_step window)

-- And it leaves the buffers of the call as the whole rest does.
pub window_buffers : (window rest first second work : List ℕ) → Window window rest
    → (step_first window first ≡ step_first rest first) × (step_second window second ≡ step_second rest second)
    × (step_work window work ≡ step_work rest work)
unfolding step_first step_second step_work
window_buffers window rest first second work w = (
  of_rest (λ l. step_first l first) window rest (λ more. shown_buffer window more _ first) w,
  of_rest (λ l. step_second l second) window rest (λ more. shown_buffer window more _ second) w,
  of_rest (λ l. step_work l work) window rest (λ more. shown_buffer window more record_work work) w,
)

-- So does one of the longest record, or longer.
pub longest_step : (window rest : List ℕ) → window ≡ take (length window) rest → header_length + longest_body ≤ length window
    → step window ≡ step rest
longest_step window rest front long = window_step window rest (record { front = front; enough = inl (longest_shown window long) })

-- A step reads no more than is left.
within_by : (rest : List ℕ) (header : Result Header Unread) → header ≡ read_header rest → consumed (step_by rest header) ≤ length rest
unfolding step_by consumed
within_by rest (Ok header) e = whole_there rest e
within_by rest (Err End) e = omega arith
within_by rest (Err Short) e = omega arith
within_by rest (Err Unmarked) e = omega arith
within_by rest (Err Cut) e = omega arith
within_by rest (Err (Unknown kind body)) e = unknown_there rest e

pub consumed_within : (rest : List ℕ) → consumed (step rest) ≤ length rest
unfolding step
consumed_within rest = within_by rest (read_header rest) refl

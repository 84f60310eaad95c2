-- Laws of the turns of `linkcheck`: what is left of the input is kept, reading and answering come to an end, and every place stays
-- within its buffer. Assumes nothing.
use mathlib.Core.Path.{◌≡◌, refl, sym, ap, ◌∙◌}
use mathlib.Core.Bool.{Bool, true, false, cond, not, ◌&&◌}
use mathlib.Core.List.{List, [], ◌∷◌, ◌++◌}
use Prim.Native.Nat.{ℕ, zero, suc, ◌+◌, ◌-◌, ◌≤◌, ◌<◌}
use native.Mathlib.Nat.{le_refl}
use native.Mathlib.Omega.{arith}
use borrow.Author.Tests.{le-leb, lt-leb}
use lib.ListN.{length, take, drop, replicate, length-take, length-drop, length-append}
use lib.Seq.{drop-nil, length-take-le, take_at, take-take, take-append-le}
use Rattle.std.specs.Prelude.{Result, Ok, Err}
use Rattle.std.specs.Result.{IfErr, IfOk}
use Rattle.keccak.specs.Lists.{patched}
use Rattle.lines.specs.Line.{Written}
use Rattle.records.specs.declared.step.Stepped.{Stepped}
use Rattle.records.specs.Header.{shows_record}
use Rattle.records.specs.Record.{step, consumed, reading_ends}
use Rattle.records.specs.Steps.{line_room, step_work, StepExit}
use Rattle.records.proofs.Stepping.{never_true, step_zeros}
use Rattle.records.proofs.Windows.{consumed_within}
use Rattle.records.proofs.Transcripts.{goes_on_less}
use Rattle.linkcheck.specs.declared.State.{State}
use Rattle.linkcheck.specs.Turns.{window_of, Places, flushed, has_room, RoomMade, Filled, waits, Ready, Unwritten, Wiped, Answered}

-- What was written stands within the buffer.
pub written_within : {entry text exit : List ℕ} {at next : ℕ} → Written entry at text next exit → at ≤ length entry → next ≤ length exit
written_within {entry} {text} {exit} {at} {next} w h =
    omega (arith, length-take next exit, ap length w.stands, length-append (take at entry) text, length-take at entry, w.next_is)

-- ---- reading

-- The window of a state that begins at the front of the buffer.
front_window : (input : List ℕ) (end : ℕ) → take (end - 0) (drop 0 input) ≡ take end input
front_window input end =
    let all : end - 0 ≡ end = omega arith in
    rw all refl

-- What `fill` carries: the first `left` bytes are those that were moved to the front, and what was read ends at `end`; where a record
-- was shown at first nothing was read.
pub record Reading (moved : List ℕ) (left : ℕ) (input : List ℕ) (end : ℕ) : Type 0 where
  pub within : end ≤ length input
  pub long : length input ≡ length moved
  pub some : left ≤ end
  pub same : take left input ≡ take left moved
  pub unread : shows_record (take left moved) ≡ true → (input ≡ moved) × (end ≡ left)

-- A read behind a place changes nothing before it.
read_before : (input : List ℕ) (k end : ℕ) (ys : List ℕ) → k ≤ end → end ≤ length input
    → take k (patched end (length input - end) ys input) ≡ take k input
read_before input k end ys h within =
    let long = length-take-le end input within in
    take-append-le k (take end input) (ys ++ drop (length input - end) (drop end input)) (omega arith) ∙ take-take k end input h

-- One read more, where no record was shown.
pub reading_more : {moved input : List ℕ} {left end next : ℕ} (ys : List ℕ) → Reading moved left input end
    → shows_record (take end input) ≡ false → length (patched end (length input - end) ys input) ≡ length input → end ≤ next
    → next ≤ length input → Reading moved left (patched end (length input - end) ys input) next
reading_more {moved} {input} {left} {end} ys h hidden long more inside =
    record {
      within = omega (arith, long);
      long = long ∙ h.long;
      some = omega (arith, h.some);
      same = read_before input left end ys h.some h.within ∙ h.same;
      unread = λ e. never_true (sym e ∙ shown_no_more (h.unread e));
    }
  where
    shown_no_more : (input ≡ moved) × (end ≡ left) → shows_record (take left moved) ≡ false
    shown_no_more (i, n) = rw (i, n) at hidden

-- And where a read gave nothing, none is shown.
pub still_hidden : (input : List ℕ) (end : ℕ) (ys : List ℕ) → shows_record (take end input) ≡ false → end ≤ length input
    → false ≡ shows_record (take end (patched end (length input - end) ys input))
still_hidden input end ys hidden within = rw (read_before input end end ys (le_refl end) within) (sym hidden)

-- What was moved to the front stands there.
moved_front : (from to : ℕ) (input : List ℕ) → from ≤ to → to ≤ length input
    → take (to - from) (take (to - from) (drop from input) ++ drop (to - from) input) ≡ take (to - from) (drop from input)
moved_front from to input order within =
    take_at (take (to - from) (drop from input)) (drop (to - from) input) (to - from) (simp (length-take, length-drop) (omega arith))

-- What was left has been moved to the front, and more was read behind it.
pub filled : {s : State} {input moved input' : List ℕ} {end : ℕ} {more : Bool} → s.from ≤ s.to → s.to ≤ length input
    → moved ≡ take (s.to - s.from) (drop s.from input) ++ drop (s.to - s.from) input → length moved ≡ length input
    → Reading moved (s.to - s.from) input' end → more ≡ shows_record (take end input')
    → Filled s input (record { from = 0; to = end; more = more; done = s.done; at = s.at; ended = s.ended }) input'
unfolding window_of
filled {s} {input} {moved} {input'} {end} order within is long h shown =
    let left = s.to - s.from in
    let front : take left moved ≡ take left (drop s.from input) = ap (take left) is ∙ moved_front s.from s.to input order within in
    record {
      from_is = refl;
      in_input = omega (arith, h.within, h.long, long);
      long = h.long ∙ long;
      front = ap (take left) (front_window input' end) ∙ take-take left end input' h.some ∙ h.same ∙ front;
      more_is = rw (front_window input' end) shown;
      done_is = refl;
      at_is = refl;
      ended_is = refl;
      unread = λ e. let none = h.unread (ap shows_record front ∙ e) in (none.1, none.0 ∙ is);
    }

-- ---- being ready

-- The window is as it was.
same_window : (s r : State) (input : List ℕ) → r.from ≡ s.from → r.to ≡ s.to → window_of r input ≡ window_of s input
unfolding window_of
same_window s r input f t = rw (f, t) refl

-- It is all of itself.
all-kept : (s : State) (input : List ℕ) → take (s.to - s.from) (window_of s input) ≡ window_of s input
unfolding window_of
all-kept s input = take-take (s.to - s.from) (s.to - s.from) (drop s.from input) (le_refl _)

-- What stays, whether the output was written or not.
pub record Unmoved (s r : State) : Type 0 where
  pub from_is : r.from ≡ s.from
  pub to_is : r.to ≡ s.to
  pub more_is : r.more ≡ s.more
  pub done_is : r.done ≡ s.done

-- So it is.
unmoved : (room failed : Bool) {s r : State} → r ≡ cond room s (flushed s failed) → Unmoved s r
unfolding flushed
unmoved true failed e = rw e (record { from_is = refl; to_is = refl; more_is = refl; done_is = refl })
unmoved false failed e = rw e (record { from_is = refl; to_is = refl; more_is = refl; done_is = refl })

-- Where it was written.
pub flush_unmoved : {s r : State} → r ≡ flushed s r.ended → Unmoved s r
flush_unmoved {r = r} e = unmoved false r.ended e

-- There is room for a line where the output has so much left.
pub room_there : {s : State} (out : List ℕ) → s.at ≤ length out → line_room ≤ length out - s.at → RoomMade s out s
room_there {s} out within h =
    let fits : s.at + line_room ≤ length out = omega arith in
    record { state_is = rw (le-leb _ _ fits) refl; line_fits = fits }

-- What holds where there is none.
pub no_room : (s : State) (out : List ℕ) → s.at ≤ length out → length out - s.at < line_room → has_room s out ≡ false
no_room s out within h = lt-leb _ _ (omega arith)

-- The run goes on where the output was written, and as it did where nothing was.
pub goes_on : {E : Type 0} (r : Result State E) (s : State) (out : List ℕ) → has_room s out ≡ false → IfOk r (λ t. t ≡ flushed s false)
    → IfOk r (λ t. t.ended ≡ cond (has_room s out) s.ended false)
unfolding flushed
goes_on (Ok t) s out none e = rw (none, e) refl
goes_on (Err x) s out none e = e

pub goes_on_as_it_did : (s : State) (out : List ℕ) → s.at ≤ length out → line_room ≤ length out - s.at
    → s.ended ≡ cond (has_room s out) s.ended false
goes_on_as_it_did s out within h =
    let fits : s.at + line_room ≤ length out = omega arith in
    rw (le-leb _ _ fits) refl

-- What holds anyhow holds of an error.
pub of_error : {T E : Type 0} {P : Type 0} (r : Result T E) → P → IfErr r (λ e. P)
of_error (Ok x) p = tt
of_error (Err e) p = p

-- Else the output has been written.
pub room_made : {s r : State} (out : List ℕ) → line_room ≤ length out → length out - s.at < line_room → r ≡ flushed s false
    → RoomMade s out r
unfolding flushed
room_made {s} {r} out room h e =
    let short : length out < s.at + line_room = omega arith in
    let none : r.at ≡ 0 = rw e refl in
    let on : r.ended ≡ false = rw e refl in
    record { state_is = rw (lt-leb _ _ short) (e ∙ ap (flushed s) (sym on)); line_fits = omega (arith, none) }

-- Nothing was read.
ready_at_once : {s r : State} {input out : List ℕ} → Places s input out → RoomMade s out r → waits s input ≡ false
    → (s.more ≡ true → shows_record (window_of s input) ≡ true) → Ready s input out r input
ready_at_once {s} {r} {input} {out} p made not shown =
    let u = unmoved (has_room s out) r.ended made.state_is in
    let same = same_window s r input u.from_is u.to_is in
    record {
      window = record {
        in_order = omega (arith, p.in_order, u.from_is, u.to_is);
        in_input = omega (arith, p.in_input, u.to_is);
        done_is = u.done_is;
        front = ap (take (s.to - s.from)) same ∙ all-kept s input;
        shown = λ e. rw same (shown (sym u.more_is ∙ e));
      };
      line_fits = made.line_fits;
      waited = λ e. never_true (sym e ∙ not);
      at_once = λ e. (made, refl);
    }

-- Where the program does not have to wait, a record is shown unless the input has ended.
shown_at_once : (more shown : Bool) → more && not shown ≡ false → more ≡ true → shown ≡ true
shown_at_once true true not e = refl
shown_at_once true false not e = never_true not
shown_at_once false shown not e = never_true (sym e)

pub ready_there : {s r : State} {input out : List ℕ} → Places s input out → RoomMade s out r → waits s input ≡ false
    → Ready s input out r input
ready_there {s} {r} {input} p made not = ready_at_once p made not (shown_at_once s.more (shows_record (window_of s input)) not)

-- More was read, whether the output was written before or not.
flushed_filled : {s f : State} {input input' : List ℕ} (failed : Bool) → Filled s input f input'
    → Filled (flushed s failed) input (flushed f failed) input'
unfolding flushed
flushed_filled {s} {f} {input} {input'} failed h =
    let same : window_of (flushed f failed) input' ≡ window_of f input' = same_window f (flushed f failed) input' refl refl in
    let as_was : window_of (flushed s failed) input ≡ window_of s input = same_window s (flushed s failed) input refl refl in
    record {
      from_is = h.from_is;
      in_input = h.in_input;
      long = h.long;
      front = ap (take (s.to - s.from)) same ∙ (h.front ∙ sym as_was);
      more_is = h.more_is ∙ ap shows_record (sym same);
      done_is = h.done_is;
      at_is = refl;
      ended_is = refl;
      unread = rw as_was h.unread;
    }

-- The output was written, and more was read.
pub ready_waited : {s f : State} {input out input' : List ℕ} → line_room ≤ length out → waits s input ≡ true
    → Filled s input f input'
    → Ready s input out (record { from = f.from; to = f.to; more = f.more; done = f.done; at = 0; ended = false }) input'
unfolding flushed
ready_waited {s} {f} {input} {out} {input'} room waiting h =
    let r : State = record { from = f.from; to = f.to; more = f.more; done = f.done; at = 0; ended = false } in
    let same : window_of r input' ≡ window_of f input' = same_window f r input' refl refl in
    record {
      window = record {
        in_order = omega (arith, h.from_is);
        in_input = h.in_input;
        done_is = h.done_is;
        front = ap (take (s.to - s.from)) same ∙ h.front;
        shown = λ e. ap shows_record same ∙ (sym h.more_is ∙ e);
      };
      line_fits = room;
      waited = λ e. flushed_filled false h;
      at_once = λ e. never_true (sym waiting ∙ e);
    }

-- Whether the run goes on: not where it had to wait, for then the output was written.
pub goes_on_at_once : {E : Type 0} (r : Result State E) (s : State) (input out : List ℕ) → waits s input ≡ false
    → IfOk r (λ t. t.ended ≡ cond (has_room s out) s.ended false)
    → IfOk r (λ t. t.ended ≡ cond (waits s input) false (cond (has_room s out) s.ended false))
goes_on_at_once (Ok t) s input out none e = rw none e
goes_on_at_once (Err x) s input out none e = e

pub goes_on_waited : (s : State) (input : List ℕ) (b : Bool) → waits s input ≡ true → false ≡ cond (waits s input) false b
goes_on_waited s input b waiting = rw waiting refl

-- Where a write failed before the program had to wait.
pub unwritten_at_once : {s : State} {input out : List ℕ} → waits s input ≡ false → has_room s out ≡ false
    → Unwritten s input out input
unwritten_at_once idle none = record { long = refl; waited = λ e. never_true (sym e ∙ idle); at_once = λ e. (none, refl) }

-- And where it had to.
pub unwritten_waited : {s f : State} {input out input' : List ℕ} → waits s input ≡ true → Filled s input f input'
    → Unwritten s input out input'
unwritten_waited {f = f} waiting h =
    record {
      long = h.long;
      waited = λ e. (flushed f true, flushed_filled true h);
      at_once = λ e. never_true (sym waiting ∙ e);
    }

-- ---- answering

-- What the step leaves, in the words of the state.
pub answered : {s : State} {input out first second work out' first' second' work' : List ℕ} {r : Stepped}
    → StepExit s.done (take (s.to - s.from) (drop s.from input)) out s.at first second work r out' first' second' work'
    → Answered s input out first second work
    (record { from = s.from + r.consumed; to = s.to; more = s.more; done = r.done; at = r.at; ended = r.ended })
    out' first' second' work'
unfolding window_of
answered {s} x = record {
  written = x.line.written;
  from_is = ap (λ (n : ℕ). s.from + n) x.line.consumed_is;
  to_is = refl;
  more_is = refl;
  done_is = x.line.done_is;
  ends = x.line.ends;
  first_is = x.first_is;
  second_is = x.second_is;
  work_is = x.work_is;
}

-- The step reads within the window.
pub reads_within : (s : State) (input : List ℕ) → s.from ≤ s.to → s.from + consumed (step (window_of s input)) ≤ s.to
unfolding window_of
reads_within s input order =
    let long = length-take (s.to - s.from) (drop s.from input) in
    omega (arith, consumed_within (take (s.to - s.from) (drop s.from input)))

-- How long the buffers of a run are.
pub record Buffers (input out first second work : List ℕ) : Type 0 where
  pub input_long : 65536 ≡ length input
  pub out_long : 65536 ≡ length out
  pub first_long : 4096 ≡ length first
  pub second_long : 5120 ≡ length second
  pub work_long : 65536 ≡ length work

-- Zeros written over zeros at the front are so many zeros.
zeros_over : (a b : ℕ) (work : List ℕ)
    → (k : ℕ) × (replicate a 0 ++ drop a (replicate b 0 ++ drop b work) ≡ replicate k 0 ++ drop k work)
zeros_over zero b work = (b, refl)
zeros_over (suc a) zero work = (suc a, refl)
zeros_over (suc a) (suc b) [] =
    let more = zeros_over a b [] in
    (suc more.0, ap (λ (l : List ℕ). 0 ∷ l) (rw (drop-nil {A = ℕ} b, drop-nil {A = ℕ} more.0) at more.1))
zeros_over (suc a) (suc b) (x ∷ xs) = let more = zeros_over a b xs in (suc more.0, ap (λ (l : List ℕ). 0 ∷ l) more.1)

-- One step more.
wiped_more : {work₀ work work' : List ℕ} (rest : List ℕ) → Wiped work₀ work → work' ≡ step_work rest work → Wiped work₀ work'
wiped_more {work₀} {work} rest h e =
    let zeros = step_zeros rest work in
    let both = zeros_over zeros.0 h.bytes work₀ in
    record {
      bytes = both.0;
      work_is = e ∙ zeros.1 ∙ ap (λ (l : List ℕ). replicate zeros.0 0 ++ drop zeros.0 l) h.work_is ∙ both.1;
    }

-- What `run` carries: every place is within its buffer, where the run goes on there is a record left to answer, and no step has left
-- anything in the work area.
pub record Running (s : State) (work₀ input out first second work : List ℕ) : Type 0 where
  pub wiped : Wiped work₀ work
  pub buffers : Buffers input out first second work
  pub places : Places s input out
  pub few : s.ended ≡ false → s.done < 65535

module _ {s r t : State} {work₀ input input' out out' first second work first' second' work' : List ℕ}
    (h : Running s work₀ input out first second work) (on : s.ended ≡ false) (ready : Ready s input out r input')
    (a : Answered r input' out first second work t out' first' second' work') where
  -- A record is left to answer before the turn's step.
  few_before : r.done < 65535
  few_before = omega (arith, h.few on, ready.window.done_is)

  -- The records that are left to answer fall with every turn, to none where the run ends.
  pub turn_falls : cond t.ended 0 (65535 - t.done) < cond s.ended 0 (65535 - s.done)
  turn_falls =
      rw (on, ← ready.window.done_is) (falls_by t.ended a.ends)
    where
      falls_by : (e : Bool) → e ≡ reading_ends r.done (step (window_of r input')) → cond e 0 (65535 - t.done) < 65535 - r.done
      falls_by true is = omega (arith, few_before)
      falls_by false is = omega (arith, few_before, a.done_is, (goes_on_less r.done _ (sym is)).one_more)

  -- One turn more.
  pub running_more : Buffers input' out' first' second' work' → Running t work₀ input' out' first' second' work'
  running_more b = record {
    wiped = wiped_more (window_of r input') h.wiped a.work_is;
    buffers = b;
    places = record {
      in_order = omega (arith, a.from_is, a.to_is, reads_within r input' ready.window.in_order);
      in_input = omega (arith, a.to_is, ready.window.in_input, h.buffers.input_long, b.input_long);
      in_output = written_within a.written (omega (arith, ready.line_fits));
      room = omega (arith, b.out_long);
    };
    few = λ e.
        let further = goes_on_less r.done _ (sym a.ends ∙ e) in
        omega (arith, a.done_is, further.one_more, further.not_last);
  }

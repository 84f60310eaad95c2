-- What the turns of `linkcheck` ask and leave: where what is left of the input stands, and what the output has. A primed name is a
-- buffer at exit. Rests on the steps of `records` and the struct `State` of src/.
use Rattle.std.specs.Prelude.{◌≡◌, Bool, true, false, cond, not, ◌&&◌, List, ◌++◌, ℕ, suc, ◌+◌, ◌-◌, ◌≤◌, leb, length, take, drop, replicate}
use Rattle.lines.specs.Line.{Written}
use Rattle.records.specs.Header.{shows_record}
use Rattle.records.specs.Record.{step, step_line, done_after, consumed, reading_ends}
use Rattle.records.specs.Steps.{line_room, StepRoom, step_first, step_second, step_work}
use Rattle.linkcheck.specs.declared.State.{State}

-- The window: what was read of the input and is left.
unfoldable pub window_of : State → List ℕ → List ℕ
window_of s input = take (s.to - s.from) (drop s.from input)

-- It stands within the input's buffer, and what is to be written within the output's.
pub record Places (s : State) (input out : List ℕ) : Type 0 where
  pub in_order : s.from ≤ s.to
  pub in_input : s.to ≤ length input
  pub in_output : s.at ≤ length out
  pub room : line_room ≤ length out

-- The state after the output has been written; the run ends where that failed, which the system decides.
unfoldable pub flushed : State → Bool → State
flushed s failed = record { from = s.from; to = s.to; more = s.more; done = s.done; at = 0; ended = failed }

-- Whether the output has room for a line.
abbrev pub has_room : State → List ℕ → Bool
has_room s out = leb (s.at + line_room) (length out)

-- Where it has, nothing changes; else it is written. Then it has.
pub record RoomMade (s : State) (out : List ℕ) (r : State) : Type 0 where
  pub state_is : r ≡ cond (has_room s out) s (flushed s r.ended)
  pub line_fits : r.at + line_room ≤ length out

-- The window stands at the front of the buffer and begins with what it was, and the input may have more exactly where it shows a
-- record; where it showed one already nothing was read. How many bytes were read, and which, is the system's.
pub record Filled (s : State) (input : List ℕ) (r : State) (input' : List ℕ) : Type 0 where
  pub from_is : r.from ≡ 0
  pub in_input : r.to ≤ length input
  pub long : length input' ≡ length input
  pub front : take (s.to - s.from) (window_of r input') ≡ window_of s input
  pub more_is : r.more ≡ shows_record (window_of r input')
  pub done_is : r.done ≡ s.done
  pub at_is : r.at ≡ s.at
  pub ended_is : r.ended ≡ s.ended
  pub unread : shows_record (window_of s input) ≡ true → (r.to ≡ s.to - s.from) × (input' ≡ window_of s input ++ drop (s.to - s.from) input)

-- The window begins with what it was, and shows a record unless the input has ended.
pub record Kept (s : State) (input : List ℕ) (r : State) (input' : List ℕ) : Type 0 where
  pub in_order : r.from ≤ r.to
  pub in_input : r.to ≤ length input
  pub done_is : r.done ≡ s.done
  pub front : take (s.to - s.from) (window_of r input') ≡ window_of s input
  pub shown : r.more ≡ true → shows_record (window_of r input') ≡ true

-- Whether the program has to wait for input: there may be more, and the window does not show a record.
abbrev pub waits : State → List ℕ → Bool
waits s input = s.more && not (shows_record (window_of s input))

-- The output has room for a line. Where the program has to wait, the output was written and then more was read; else nothing was
-- read, and the output was written only where it had no room.
pub record Ready (s : State) (input out : List ℕ) (r : State) (input' : List ℕ) : Type 0 where
  pub window : Kept s input r input'
  pub line_fits : r.at + line_room ≤ length out
  pub waited : waits s input ≡ true → Filled (flushed s r.ended) input r input'
  pub at_once : waits s input ≡ false → RoomMade s out r × (input' ≡ input)

-- What is left where a write failed: the input's buffer is as long as it was. Where the program had to wait, more was read all the
-- same, behind what was left; else there was no room for a line, and nothing was read.
pub record Unwritten (s : State) (input out input' : List ℕ) : Type 0 where
  pub long : length input' ≡ length input
  pub waited : waits s input ≡ true → (r : State) × Filled (flushed s true) input r input'
  pub at_once : waits s input ≡ false → (has_room s out ≡ false) × (input' ≡ input)

-- A work area after any number of steps: zeros at its front, and behind them what it was.
pub record Wiped (work work' : List ℕ) : Type 0 where
  pub bytes : ℕ
  pub work_is : work' ≡ replicate bytes 0 ++ drop bytes work

-- A record may be answered.
pub record AnswerRoom (s : State) (input out first second work : List ℕ) : Type 0 where
  pub in_order : s.from ≤ s.to
  pub in_input : s.to ≤ length input
  pub step_room : StepRoom s.done s.at out first second work

-- The window's step was made: its line was written, what is left stands behind what was read, and the buffers of the call are as the
-- step leaves them.
pub record Answered (s : State) (input out first second work : List ℕ) (r : State) (out' first' second' work' : List ℕ) : Type 0 where
  pub written : Written out s.at (step_line (suc s.done) (step (window_of s input))) r.at out'
  pub from_is : r.from ≡ s.from + consumed (step (window_of s input))
  pub to_is : r.to ≡ s.to
  pub more_is : r.more ≡ s.more
  pub done_is : r.done ≡ done_after s.done (step (window_of s input))
  pub ends : r.ended ≡ reading_ends s.done (step (window_of s input))
  pub first_is : first' ≡ step_first (window_of s input) first
  pub second_is : second' ≡ step_second (window_of s input) second
  pub work_is : work' ≡ step_work (window_of s input) work

-- What a step asks and leaves. A primed name is a buffer at exit. Rests on Record, Outputs and the struct `Stepped` of src/.
use Rattle.std.specs.Prelude.{◌≡◌, List, ℕ, suc, ◌+◌, ◌*◌, ◌≤◌, ◌<◌, length, take, drop, Result, Ok, Err}
use Rattle.lines.specs.Line.{Written}
use Rattle.record_calls.specs.Bodies.{record_parts}
use Rattle.record_calls.specs.Outputs.{first_most, second_most, Room, first_after, second_after, record_work}
use Rattle.records.specs.declared.header.Header.{Header}
use Rattle.records.specs.declared.header.Unread.{Unread}
use Rattle.records.specs.declared.step.Stepped.{Stepped}
use Rattle.records.specs.Header.{header_length, read_header}
use Rattle.records.specs.Record.{Step, step, most_records, step_line, done_after, consumed, reading_ends}

-- The room that the longest line takes: four fields of at most 20 digits with a space each, the output, a - and a line feed.
abbrev pub line_room : ℕ
line_room = 86 + 2 * (first_most + second_most)

-- Fewer records than the most have been answered; the output has room for a line, and there is room for the call.
pub record StepRoom (done at : ℕ) (out first second work : List ℕ) : Type 0 where
  pub few : done < most_records
  pub line_fits : at + line_room ≤ length out
  pub room : Room first second work

-- What is written and returned, where what is left gives s: its line, how many records have been answered, how many bytes were read,
-- and whether reading ends.
pub record LineExit (done : ℕ) (s : Step) (out : List ℕ) (at : ℕ) (r : Stepped) (out' : List ℕ) : Type 0 where
  pub written : Written out at (step_line (suc done) s) r.at out'
  pub done_is : r.done ≡ done_after done s
  pub consumed_is : r.consumed ≡ consumed s
  pub ends : r.ended ≡ reading_ends done s

-- A buffer lent for the call, at exit: what the call of a whole header leaves of it, by kind, set and body; a header that is not
-- whole calls nothing, and it is as it was.
unfoldable pub buffer_by : (ℕ → ℕ → List ℕ → List ℕ → List ℕ) → List ℕ → List ℕ → Result Header Unread → List ℕ
buffer_by after rest entry (Ok h) = after h.kind h.set (take h.body (drop header_length rest)) entry
buffer_by after rest entry (Err unread) = entry

-- The three of them.
unfoldable pub step_first : List ℕ → List ℕ → List ℕ
step_first rest first = buffer_by (λ kind set body. first_after (record_parts kind set body)) rest first (read_header rest)

unfoldable pub step_second : List ℕ → List ℕ → List ℕ
step_second rest second = buffer_by (λ kind set body. second_after (record_parts kind set body)) rest second (read_header rest)

unfoldable pub step_work : List ℕ → List ℕ → List ℕ
step_work rest work = buffer_by record_work rest work (read_header rest)

-- What a step leaves: its line, and the three buffers.
pub record StepExit (done : ℕ) (rest out : List ℕ) (at : ℕ) (first second work : List ℕ) (r : Stepped)
    (out' first' second' work' : List ℕ) : Type 0 where
  pub line : LineExit done (step rest) out at r out'
  pub first_is : first' ≡ step_first rest first
  pub second_is : second' ≡ step_second rest second
  pub work_is : work' ≡ step_work rest work

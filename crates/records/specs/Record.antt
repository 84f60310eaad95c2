-- Records (01, "Records on standard input"): what the record at the front of what is left gives. Rests on Header, the calls over
-- bodies and the lines of `lines`.
use Rattle.std.specs.Prelude.{Bool, true, false, List, [], ℕ, suc, ◌+◌, leb, take, drop, Result, Ok, Err}
use Rattle.kindi.specs.Answers.{Answer, refused}
use Rattle.kindi.specs.Calls.{number, output}
use Rattle.lines.specs.Line.{kind_field, line}
use Rattle.record_calls.specs.Bodies.{record_answer}
use Rattle.records.specs.declared.header.Header.{Header}
use Rattle.records.specs.declared.header.Unread.{Unread}
use Rattle.records.specs.declared.header.Unread.TheVariants.{End, Short, Unmarked, Cut, Unknown}
use Rattle.records.specs.Header.{header_length, header_number, read_header}

-- What the front of what is left gives: the end of the input; a refusal with no kind, after which reading ends; or the answer
-- to a record of a kind, and how many bytes the record has.
pub data Step : Type 0 where
  finished : Step
  stopped : ℕ → Step
  answers : ℕ → Answer (List ℕ) → ℕ → Step

-- After 10 or 11 reading ends; after others it goes on behind the body.
unfoldable pub step_by : List ℕ → Result Header Unread → Step
step_by rest (Ok h) = answers h.kind (record_answer h.kind h.set (take h.body (drop header_length rest))) (header_length + h.body)
step_by rest (Err End) = finished
step_by rest (Err Short) = stopped (header_number (Err Short))
step_by rest (Err Unmarked) = stopped (header_number (Err Unmarked))
step_by rest (Err Cut) = stopped (header_number (Err Cut))
step_by rest (Err (Unknown kind body)) = answers kind (refused (header_number (Err (Unknown kind body)))) (header_length + body)

unfoldable pub step : List ℕ → Step
step rest = step_by rest (read_header rest)

-- The most records of an input.
abbrev pub most_records : ℕ
most_records = 65535

-- The line of record number i; the end of the input has none.
unfoldable pub step_line : ℕ → Step → List ℕ
step_line i finished = []
step_line i (stopped status) = line i (kind_field false 0) status []
step_line i (answers kind answer size) = line i (kind_field true kind) (number answer) (output answer (λ o. o) [])

-- How many records have been answered, where `done` were before.
unfoldable pub done_after : ℕ → Step → ℕ
done_after done finished = done
done_after done (stopped status) = suc done
done_after done (answers kind answer size) = suc done

-- How many bytes of what is left were read; where reading ends no more are.
unfoldable pub consumed : Step → ℕ
consumed finished = 0
consumed (stopped status) = 0
consumed (answers kind answer size) = size

-- Whether reading ends: at the end of the input, after 10 or 11, and after the last record that is read.
unfoldable pub reading_ends : ℕ → Step → Bool
reading_ends done finished = true
reading_ends done (stopped status) = true
reading_ends done (answers kind answer size) = leb most_records (suc done)

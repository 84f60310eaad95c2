-- The transcript (01, "Records on standard input"): the whole output for a whole input. Rests on Record.
use Rattle.std.specs.Prelude.{◌≡◌, true, false, ◌⊎◌, List, [], ◌∷◌, ◌++◌, ℕ, zero, suc, length, take, drop}
use Rattle.keccak.specs.Lists.{concat_map}
use Rattle.lines.specs.Line.{end_line}
use Rattle.records.specs.Header.{shows_record}
use Rattle.records.specs.Record.{Step, finished, stopped, answers, step, most_records, step_line, done_after, consumed, reading_ends}

-- The line of a step, and after a record that is answered the lines of what follows it.
unfoldable pub lines_of : ℕ → Step → (ℕ → List (List ℕ)) → List (List ℕ)
lines_of i finished following = []
lines_of i (stopped status) following = step_line i (stopped status) ∷ []
lines_of i (answers kind answer size) following = step_line i (answers kind answer size) ∷ following size

-- The lines of the records in what is left, at most so many, the first with number i.
unfoldable pub lines_from : ℕ → ℕ → List ℕ → List (List ℕ)
lines_from zero i rest = []
lines_from (suc most) i rest = lines_of i (step rest) (λ size. lines_from most (suc i) (drop size rest))

-- The lines of an input.
unfoldable pub record_lines : List ℕ → List (List ℕ)
record_lines input = lines_from most_records 1 input

-- The whole output: the lines, and the last line with their number.
unfoldable pub transcript : List ℕ → List ℕ
transcript input = concat_map (λ l. l) (record_lines input) ++ end_line (length (record_lines input))

-- A window of what is left: the front of it that shows its record, or all of it.
pub record Window (window rest : List ℕ) : Type 0 where
  pub front : window ≡ take (length window) rest
  pub enough : (shows_record window ≡ true) ⊎ (window ≡ rest)

-- What a program writes that has answered `done` records and has this rest of the input before it: it steps on a window of the rest
-- and writes the step's line; where reading ends it writes the last line, else it goes on behind what was read.
pub data Run : ℕ → List ℕ → List ℕ → Type 0 where
  ends : (done : ℕ) (rest window text : List ℕ) → Window window rest → reading_ends done (step window) ≡ true
      → text ≡ step_line (suc done) (step window) ++ end_line (done_after done (step window)) → Run done rest text
  goes_on : (done : ℕ) (rest window later text : List ℕ) → Window window rest → reading_ends done (step window) ≡ false
      → Run (done_after done (step window)) (drop (consumed (step window)) rest) later
      → text ≡ step_line (suc done) (step window) ++ later → Run done rest text

-- 01's examples of records: its input prints its output, to the letter, and empty input prints `end 0`. Assumes nothing.
use mathlib.Core.Path.{◌≡◌, refl}
use mathlib.Core.List.{List, [], ◌∷◌}
use Prim.Native.Nat.{ℕ}
use Rattle.keccak.specs.Lists.{concat_map}
use Rattle.kindi.specs.Answers.{refuse_if, then}
use Rattle.kindi.specs.Params.{of_set}
use Rattle.kindi.specs.Calls.{number, output, in_set}
use Rattle.lines.specs.Line.{decimal_in, decimal, fields, output_field, line, end_line}
use Rattle.record_calls.specs.Bodies.{body_bytes, wrong_length, record_parts, joined, record_answer}
use Rattle.records.specs.Header.{read_header}
use Rattle.records.specs.Record.{step_by, step, step_line}
use Rattle.records.specs.Transcript.{lines_of, lines_from, record_lines, transcript}

-- 4B 4E 09 01 00 00 4B 4E 02 07 00 00 4B 4E 01 01 01 00 AA 4B 4E
abbrev input : List ℕ
input =
    0x4B ∷ 0x4E ∷ 0x09 ∷ 0x01 ∷ 0x00 ∷ 0x00 ∷ 0x4B ∷ 0x4E ∷ 0x02 ∷ 0x07 ∷ 0x00 ∷ 0x00
    ∷ 0x4B ∷ 0x4E ∷ 0x01 ∷ 0x01 ∷ 0x01 ∷ 0x00 ∷ 0xAA ∷ 0x4B ∷ 0x4E ∷ []

-- 1 9 12 0 -, 2 2 1 0 -, 3 1 2 0 -, 4 - 11 0 -, end 4
abbrev text : List ℕ
text =
    49 ∷ 32 ∷ 57 ∷ 32 ∷ 49 ∷ 50 ∷ 32 ∷ 48 ∷ 32 ∷ 45 ∷ 10 ∷ 50 ∷ 32 ∷ 50 ∷ 32 ∷ 49 ∷ 32 ∷ 48 ∷ 32 ∷ 45 ∷ 10
    ∷ 51 ∷ 32 ∷ 49 ∷ 32 ∷ 50 ∷ 32 ∷ 48 ∷ 32 ∷ 45 ∷ 10
    ∷ 52 ∷ 32 ∷ 45 ∷ 32 ∷ 49 ∷ 49 ∷ 32 ∷ 48 ∷ 32 ∷ 45 ∷ 10 ∷ 101 ∷ 110 ∷ 100 ∷ 32 ∷ 52 ∷ 10 ∷ []

pub example : transcript input ≡ text
unfolding transcript record_lines lines_from lines_of step step_by step_line read_header
    record_answer joined record_parts wrong_length body_bytes in_set refuse_if then of_set number output concat_map
    decimal_in decimal fields output_field line end_line
example = refl

pub empty : transcript [] ≡ 101 ∷ 110 ∷ 100 ∷ 32 ∷ 48 ∷ 10 ∷ []
unfolding transcript record_lines lines_from lines_of step step_by read_header concat_map decimal_in decimal fields end_line
empty = refl

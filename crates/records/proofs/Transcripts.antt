-- Stepping on windows writes the transcript; after 10 or 11, and after the last record, nothing more is read; the number of lines
-- is that of the last line. Assumes nothing.
use mathlib.Core.Path.{◌≡◌, refl, sym, ap, ap₂, ◌∙◌}
use mathlib.Core.Bool.{true, false}
use mathlib.Core.List.{List, [], ◌∷◌, ◌++◌, append_assoc, append-nil}
use mathlib.Core.Logic.{◌⊎◌, inl, inr}
use Prim.Native.Nat.{ℕ, zero, suc, ◌+◌, ◌≤◌, ◌<◌}
use native.Mathlib.Nat.{zero-add}
use native.Mathlib.Numerals.{add-one}
use native.Mathlib.Omega.{arith}
use borrow.Author.Tests.{leb-true, leb-false}
use lib.ListN.{length, drop}
use Rattle.std.specs.Prelude.{Result, Ok, Err}
use Rattle.keccak.specs.Lists.{concat_map}
use Rattle.kindi.specs.Calls.{number, output}
use Rattle.kindi.proofs.Chains.{never}
use Rattle.lines.specs.Line.{kind_field, end_line, feeds}
use Rattle.lines.proofs.Texts.{feeds-append, line-feeds, kind_feeds, end_feeds}
use Rattle.records.specs.declared.header.Header.{Header}
use Rattle.records.specs.declared.header.Unread.{Unread}
use Rattle.records.specs.declared.header.Unread.TheVariants.{End, Short, Unmarked, Cut, Unknown}
use Rattle.records.specs.Header.{read_header, shows_record}
use Rattle.records.specs.Record.{Step, finished, stopped, answers, step_by, step, most_records, step_line}
use Rattle.records.specs.Record.{done_after, consumed, reading_ends}
use Rattle.records.specs.Transcript.{lines_of, lines_from, record_lines, transcript, Run, ends, goes_on}
use Rattle.records.proofs.Stepping.{never_true}
use Rattle.records.proofs.Windows.{window_step, shown_step}

-- ---- the text of lines, where `done` records have been answered before

abbrev text : ℕ → List (List ℕ) → List ℕ
text done lines = concat_map (λ l. l) lines ++ end_line (done + length lines)

-- No line, one line, and a line before others.
text_none : (done : ℕ) → text done [] ≡ end_line done
unfolding concat_map
text_none done = ap end_line (omega arith)

text-one : (done : ℕ) (l : List ℕ) → text done (l ∷ []) ≡ l ++ end_line (suc done)
unfolding concat_map
text-one done l = ap₂ (λ (x : List ℕ) (n : ℕ). x ++ end_line n) (append-nil l) (add-one done)

text_more : (done : ℕ) (l : List ℕ) (ls : List (List ℕ)) → text done (l ∷ ls) ≡ l ++ text (suc done) ls
unfolding concat_map
text_more done l ls =
    append_assoc l (concat_map (λ x. x) ls) (end_line (done + suc (length ls)))
    ∙ ap (λ (n : ℕ). l ++ (concat_map (λ x. x) ls ++ end_line n)) (omega arith)

-- ---- stepping

-- Where reading ends with a step, the text is its line and the last line.
ends_text : (done most : ℕ) (s : Step) (rest : List ℕ) → done + suc most ≡ most_records → reading_ends done s ≡ true
    → step_line (suc done) s ++ end_line (done_after done s)
    ≡ text done (lines_of (suc done) s (λ size. lines_from most (suc (suc done)) (drop size rest)))
unfolding reading_ends step_line done_after lines_of lines_from
ends_text done most finished rest all e = sym (text_none done)
ends_text done most (stopped status) rest all e = sym (text-one done (step_line (suc done) (stopped status)))
ends_text done zero (answers kind answer size) rest all e = sym (text-one done (step_line (suc done) (answers kind answer size)))
ends_text done (suc most) (answers kind answer size) rest all e = absurd (omega (arith, leb-true 65535 (suc done) e))

-- Where it goes on, the text is its line and what is written later.
goes_on_text : (done most : ℕ) (s : Step) (rest later : List ℕ) → reading_ends done s ≡ false
    → later ≡ text (done_after done s) (lines_from most (suc (done_after done s)) (drop (consumed s) rest))
    → step_line (suc done) s ++ later ≡ text done (lines_of (suc done) s (λ size. lines_from most (suc (suc done)) (drop size rest)))
unfolding reading_ends step_line done_after consumed lines_of
goes_on_text done most finished rest later e is = never_true e
goes_on_text done most (stopped status) rest later e is = never_true e
goes_on_text done most (answers kind answer size) rest later e is =
    ap (λ (x : List ℕ). step_line (suc done) (answers kind answer size) ++ x) is
    ∙ sym (text_more done (step_line (suc done) (answers kind answer size)) (lines_from most (suc (suc done)) (drop size rest)))

-- One record more has been answered, and it was not the last that is read.
pub record GoesOn (done : ℕ) (s : Step) : Type 0 where
  pub one_more : done_after done s ≡ suc done
  pub not_last : suc done < most_records

pub goes_on_less : (done : ℕ) (s : Step) → reading_ends done s ≡ false → GoesOn done s
unfolding reading_ends done_after
goes_on_less done finished e = never_true e
goes_on_less done (stopped status) e = never_true e
goes_on_less done (answers kind answer size) e = record { one_more = refl; not_last = leb-false 65535 (suc done) e }

-- What a program writes is the text of the lines of what is left.
run_text : (done : ℕ) (rest written : List ℕ) → Run done rest written → (most : ℕ) → done + suc most ≡ most_records
    → written ≡ text done (lines_from (suc most) (suc done) rest)
unfolding lines_from
run_text done rest written (ends _ _ window _ w e is) most all =
    let same = window_step window rest w in
    is ∙ ap (λ (x : Step). step_line (suc done) x ++ end_line (done_after done x)) same
    ∙ ends_text done most (step rest) rest all (rw same at e)
run_text done rest written (goes_on _ _ window later _ w e more is) zero all =
    absurd (omega (arith, (goes_on_less done (step window) e).not_last))
run_text done rest written (goes_on _ _ window later _ w e more is) (suc most) all =
    let on = goes_on_less done (step window) e in
    let later-is = run_text (done_after done (step window)) (drop (consumed (step window)) rest) later more most
    (omega (arith, on.one_more)) in
    is ∙ goes_on_text done (suc most) (step window) rest later e later-is
    ∙ ap (λ (x : Step). text done (lines_of (suc done) x (λ size. lines_from (suc most) (suc (suc done)) (drop size rest))))
    (window_step window rest w)

-- From the start of an input it is the transcript.
pub run_transcript : (input written : List ℕ) → Run 0 input written → written ≡ transcript input
unfolding transcript record_lines
run_transcript input written r =
    run_text 0 input written r 65534 refl
    ∙ ap (λ (n : ℕ). concat_map (λ l. l) (lines_from 65535 1 input) ++ end_line n) (zero-add (length (lines_from 65535 1 input)))

-- ---- where reading ends

-- After 10 or 11 there is no other line.
pub stopped_lines : (most i : ℕ) (rest : List ℕ) {status : ℕ} → step rest ≡ stopped status
    → lines_from (suc most) i rest ≡ step_line i (stopped status) ∷ []
unfolding lines_from lines_of
stopped_lines most i rest e = rw e refl

-- Reading ends with no other numbers.
stopped_by : (rest : List ℕ) (header : Result Header Unread) {status : ℕ} → step_by rest header ≡ stopped status
    → (status ≡ 10) ⊎ (status ≡ 11)
unfolding step_by
stopped_by rest (Ok header) e = never (cc)
stopped_by rest (Err End) e = never (cc)
stopped_by rest (Err Short) e = inr (cc)
stopped_by rest (Err Unmarked) e = inl (cc)
stopped_by rest (Err Cut) e = inr (cc)
stopped_by rest (Err (Unknown kind body)) e = never (cc)

pub stopped_number : (rest : List ℕ) {status : ℕ} → step rest ≡ stopped status → (status ≡ 10) ⊎ (status ≡ 11)
unfolding step
stopped_number rest e = stopped_by rest (read_header rest) e

-- What follows a record that was shown and refused so is not read: the transcript is the same without it.
pub stopped_unread : (window more : List ℕ) {status : ℕ} → shows_record window ≡ true → step window ≡ stopped status
    → transcript (window ++ more) ≡ transcript window
unfolding transcript record_lines
stopped_unread window more {status} shown e =
    let with = stopped_lines 65534 1 (window ++ more) (shown_step window more shown ∙ e) in
    let without = stopped_lines 65534 1 window e in
    ap (λ (ls : List (List ℕ)). concat_map (λ l. l) ls ++ end_line (length ls)) (with ∙ sym without)

-- No more lines than records that are read.
lines_of_few : (i most : ℕ) (s : Step) (following : ℕ → List (List ℕ)) → ((size : ℕ) → length (following size) ≤ most)
    → length (lines_of i s following) ≤ suc most
unfolding lines_of
lines_of_few i most finished following h = omega arith
lines_of_few i most (stopped status) following h = omega arith
lines_of_few i most (answers kind answer size) following h = omega (arith, h size)

lines_few : (most i : ℕ) (rest : List ℕ) → length (lines_from most i rest) ≤ most
unfolding lines_from
lines_few zero i rest = omega arith
lines_few (suc most) i rest = lines_of_few i most (step rest) _ (λ size. lines_few most (suc i) (drop size rest))

pub records_few : (input : List ℕ) → length (record_lines input) ≤ most_records
unfolding record_lines
records_few input = lines_few 65535 1 input

-- ---- the number of lines

-- Each line ends with the one line feed that it has.
one_feed : (i : ℕ) (s : Step) → (s ≡ finished → ⊥) → feeds (step_line i s) ≡ 1
unfolding step_line
one_feed i finished some = absurd (some refl)
one_feed i (stopped status) some = line-feeds i (kind_field false 0) status [] (kind_feeds false 0)
one_feed i (answers kind answer size) some =
    line-feeds i (kind_field true kind) (number answer) (output answer (λ o. o) []) (kind_feeds true kind)

lines_of_feeds : (i : ℕ) (s : Step) (following : ℕ → List (List ℕ))
    → ((size : ℕ) → feeds (concat_map (λ l. l) (following size)) ≡ length (following size))
    → feeds (concat_map (λ l. l) (lines_of i s following)) ≡ length (lines_of i s following)
unfolding lines_of concat_map feeds
lines_of_feeds i finished following h = refl
lines_of_feeds i (stopped status) following h =
    feeds-append (step_line i (stopped status)) [] ∙ omega (arith, one_feed i (stopped status) (λ e. never (cc)))
lines_of_feeds i (answers kind answer size) following h =
    feeds-append (step_line i (answers kind answer size)) (concat_map (λ l. l) (following size))
    ∙ omega (arith, one_feed i (answers kind answer size) (λ e. never (cc)), h size)

lines_feeds : (most i : ℕ) (rest : List ℕ) → feeds (concat_map (λ l. l) (lines_from most i rest)) ≡ length (lines_from most i rest)
unfolding lines_from concat_map feeds
lines_feeds zero i rest = refl
lines_feeds (suc most) i rest = lines_of_feeds i (step rest) _ (λ size. lines_feeds most (suc i) (drop size rest))

-- The transcript has a line for each record, and the last line, which has their number.
pub transcript-feeds : (input : List ℕ) → feeds (transcript input) ≡ suc (length (record_lines input))
unfolding transcript record_lines
transcript-feeds input =
    feeds-append (concat_map (λ l. l) (lines_from 65535 1 input)) (end_line (length (lines_from 65535 1 input)))
    ∙ omega (arith, lines_feeds 65535 1 input, end_feeds (length (lines_from 65535 1 input)))

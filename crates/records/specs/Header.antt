-- The header of a record (01, "Records on standard input"): the mark 4B 4E, a kind byte, a set byte, a two-byte length with its
-- low byte first, at the front of what is left of the input. Rests on the struct `Header` and the enum `Unread` of src/.
use Rattle.std.specs.Prelude.{Bool, cond, not, ◌&&◌, ◌||◌, List, ℕ, ◌+◌, ◌*◌, eqb, leb, ltb, length, get_or, Result, Ok, Err}
use Rattle.records.specs.declared.header.Header.{Header}
use Rattle.records.specs.declared.header.Unread.{Unread}
use Rattle.records.specs.declared.header.Unread.TheVariants.{End, Short, Unmarked, Cut, Unknown}

-- The bytes of a header, and the longest body.
abbrev pub header_length : ℕ
header_length = 6

abbrev pub longest_body : ℕ
longest_body = 8192

-- The fields of a header: the mark, the kind, the set, the length of the body.
abbrev pub is_marked : List ℕ → Bool
is_marked rest = eqb (get_or rest 0 0) 75 && eqb (get_or rest 1 0) 78

abbrev pub kind_of : List ℕ → ℕ
kind_of rest = get_or rest 2 0

abbrev pub set_of : List ℕ → ℕ
set_of rest = get_or rest 3 0

abbrev pub body_length : List ℕ → ℕ
body_length rest = get_or rest 4 0 + 256 * get_or rest 5 0

-- Whether a body is over the longest, or cut short by what is left.
abbrev pub is_cut : ℕ → ℕ → Bool
is_cut left body = ltb longest_body body || ltb left (header_length + body)

-- Whether there is a kind of this number.
abbrev pub is_kind : ℕ → Bool
is_kind kind = leb 1 kind && leb kind 5

-- A header is either whole or refused: its checks are the first part of 11, 10, the rest of 11, 12.
unfoldable pub read_header : List ℕ → Result Header Unread
read_header rest =
    cond (eqb (length rest) 0) (Err End)
    (cond (ltb (length rest) header_length) (Err Short)
    (cond (not (is_marked rest)) (Err Unmarked)
    (cond (is_cut (length rest) (body_length rest)) (Err Cut)
    (cond (not (is_kind (kind_of rest))) (Err (Unknown (kind_of rest) (body_length rest)))
    (Ok (record { kind = kind_of rest; set = set_of rest; body = body_length rest }))))))

-- 01's number for each case: the refusal number; 0 where the header is whole, and at the end of the input.
abbrev pub header_number : Result Header Unread → ℕ
header_number (Ok header) = 0
header_number (Err End) = 0
header_number (Err Short) = 11
header_number (Err Unmarked) = 10
header_number (Err Cut) = 11
header_number (Err (Unknown kind body)) = 12

-- Whether the front of an input shows its record: the header is there, and its body too, unless the mark or the length refuses it.
unfoldable pub shows_record : List ℕ → Bool
shows_record window =
    leb header_length (length window)
    && (not (is_marked window) || (ltb longest_body (body_length window) || leb (header_length + body_length window) (length window)))

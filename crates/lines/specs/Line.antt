-- The lines that `linkcheck` prints (01, "Records on standard input"), in ASCII. Rests on hex's digits.
use Rattle.std.specs.Prelude.{◌≡◌, Bool, cond, List, [], ◌∷◌, ◌++◌, ℕ, zero, suc, ◌+◌, ◌/◌, ◌%◌, eqb, ltb, length, take, drop, Option, is_some, unwrap_or}
use Rattle.hex_digits.specs.Digits.{hexadecimal}

-- A number in decimal, in at most so many places.
unfoldable pub decimal_in : ℕ → ℕ → List ℕ
decimal_in zero v = []
decimal_in (suc places) v = cond (ltb v 10) ((48 + v) ∷ []) (decimal_in places (v / 10) ++ ((48 + v % 10) ∷ []))

-- A number in decimal, without zeros in front; it has fewer places than v + 2.
unfoldable pub decimal : ℕ → List ℕ
decimal v = decimal_in (suc v) v

-- Fields with a space between, and a line feed at the end.
unfoldable pub fields : List (List ℕ) → List ℕ
fields [] = 10 ∷ []
fields (x ∷ []) = x ++ (10 ∷ [])
fields (x ∷ (y ∷ rest)) = x ++ (32 ∷ fields (y ∷ rest))

-- The kind in decimal, or - where no kind is known: after 10 and 11.
abbrev pub kind_field : Bool → ℕ → List ℕ
kind_field known kind = cond known (decimal kind) (45 ∷ [])

-- The same of a kind that may have been read.
abbrev pub field_of : Option ℕ → List ℕ
field_of kind = kind_field (is_some kind) (unwrap_or kind 0)

-- The output in lower-case hexadecimal, or - where there is none.
unfoldable pub output_field : List ℕ → List ℕ
output_field [] = 45 ∷ []
output_field (x ∷ xs) = hexadecimal (x ∷ xs)

-- The line of a record: its number, its kind, the status (01: refusal number), the output's length, the output.
unfoldable pub line : ℕ → List ℕ → ℕ → List ℕ → List ℕ
line number kind status output =
    fields (decimal number ∷ kind ∷ decimal status ∷ decimal (length output) ∷ output_field output ∷ [])

-- The last line: `end` and the number of records.
unfoldable pub end_line : ℕ → List ℕ
end_line number = fields ((101 ∷ 110 ∷ 100 ∷ []) ∷ decimal number ∷ [])

-- How many line feeds a text has.
unfoldable pub feeds : List ℕ → ℕ
feeds [] = 0
feeds (x ∷ xs) = cond (eqb x 10) (suc (feeds xs)) (feeds xs)

-- A text was written from a place on: the place after it, and what stands before that place and behind it.
pub record Written (entry : List ℕ) (at : ℕ) (text : List ℕ) (next : ℕ) (exit : List ℕ) : Type 0 where
  pub next_is : next ≡ at + length text
  pub stands : take next exit ≡ take at entry ++ text
  pub behind : drop next exit ≡ drop next entry

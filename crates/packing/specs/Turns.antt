-- How the reader takes eight coefficients a turn from words of 64 bits. Rests on `Reading`.
use Rattle.std.specs.Prelude.{ℕ, ◌+◌, ◌*◌, ◌≤◌, ◌<◌}
use Rattle.packing.specs.declared.reader.Cursor.{Cursor}
use Rattle.packing.specs.Reading.{cursor_at, bit_of}

-- Four coefficients at a cursor lie in one word of a string of m bytes.
pub record OneWord (w : ℕ) (c : Cursor) (m : ℕ) : Type 0 where
  pub narrow : w ≤ 16
  pub within : c.bit < 8
  pub short : c.bit + 4 * w ≤ 64
  pub inside : c.byte + 8 ≤ m

-- Four do, and so do the four after them.
pub record TwoWords (w : ℕ) (c : Cursor) (m : ℕ) : Type 0 where
  pub first : OneWord w c m
  pub second : OneWord w (cursor_at (bit_of c + 4 * w)) m

-- Eight coefficients at this bit of any byte before `end` lie in two words of a string of m bytes.
abbrev pub HoldBefore : ℕ → ℕ → ℕ → ℕ → Type 0
HoldBefore w bit m end = (k : ℕ) → k < end → TwoWords w (record { byte = k; bit = bit }) m

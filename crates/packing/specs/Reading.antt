-- Where a reader of a bit string stands, and what it reads from there on (02, No. 3). Rests on the digits of keccak's Lists.
use Rattle.std.specs.Prelude.{List, [], ◌∷◌, ◌≡◌, ℕ, zero, suc, ◌+◌, ◌*◌, ◌/◌, ◌%◌, ◌^◌, ◌≤◌, ◌<◌}
use Rattle.keccak.specs.Lists.{value, digits}
use Rattle.packing.specs.declared.reader.Cursor.{Cursor}
use Rattle.packing.specs.declared.reader.Coefficient.{Coefficient}

-- The cursor at bit b of a string: the byte's place and the bit within it are the quotient and the remainder of b by 8.
unfoldable pub cursor_at : ℕ → Cursor
cursor_at b = record { byte = b / 8; bit = b % 8 }

-- The number of a cursor's bit in the string.
abbrev pub bit_of : Cursor → ℕ
bit_of c = 8 * c.byte + c.bit

-- The coefficient of w bits at a cursor, and the cursor w bits further on.
unfoldable pub coefficient_at : ℕ → List ℕ → Cursor → Coefficient
coefficient_at w bs c = record { value = value 8 bs / 2 ^ bit_of c % 2 ^ w; next = cursor_at (bit_of c + w) }

-- The first n coefficients of w bits each from bit b of a string on.
unfoldable pub unpack_from : ℕ → ℕ → ℕ → List ℕ → List ℕ
unpack_from b w n bs = digits w n (value 8 bs / 2 ^ b)

-- What reading n coefficients of w bits asks: at most 16 bits each, a bit of a byte, and a string of m bytes that has them.
pub record Held (w n : ℕ) (c : Cursor) (m : ℕ) : Type 0 where
  pub narrow : w ≤ 16
  pub within : c.bit < 8
  pub inside : bit_of c + w * n ≤ 8 * m

-- What reading them gives: the coefficients, and the cursor after all their bits.
pub record Read (w n : ℕ) (bs : List ℕ) (c next : Cursor) (cs : List ℕ) : Type 0 where
  pub coefficients : cs ≡ unpack_from (bit_of c) w n bs
  pub place : next ≡ cursor_at (bit_of c + w * n)

-- n coefficients in a row, each at the cursor that the one before it hands back.
unfoldable pub in_turn : ℕ → ℕ → List ℕ → Cursor → List ℕ
in_turn w zero bs c = []
in_turn w (suc n) bs c = (coefficient_at w bs c).value ∷ in_turn w n bs (coefficient_at w bs c).next

-- The cursor that the last of them hands back.
unfoldable pub cursor_after : ℕ → ℕ → List ℕ → Cursor → Cursor
cursor_after w zero bs c = c
cursor_after w (suc n) bs c = cursor_after w n bs (coefficient_at w bs c).next

-- What reading n coefficients in a row gives.
pub record InTurn (w n : ℕ) (bs : List ℕ) (c next : Cursor) (cs : List ℕ) : Type 0 where
  pub coefficients : cs ≡ in_turn w n bs c
  pub place : next ≡ cursor_after w n bs c

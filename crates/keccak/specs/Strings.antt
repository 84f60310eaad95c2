-- Strings of bytes as FIPS 202, section 3.1, turns them into states and back, and what a sponge does to its string. A string is
-- a list of bytes, and bit i of byte j is the standard's bit 8 j + i (section B.1). Rests on `Keccak`.
use Rattle.std.specs.Prelude.{List, [], ◌∷◌, ℕ, ◌+◌, ◌*◌, take, drop}
use Rattle.std.specs.Int.Bits.{bit_xor}
use Rattle.keccak.specs.Lists.{concat_map, value, digits}
use Rattle.keccak.specs.Keccak.{state, keccak_f}

-- The lane of a string's eight bytes from i on, the low byte first.
abbrev pub lane_at : List ℕ → ℕ → ℕ
lane_at s i = value 8 (take 8 (drop i s))

-- Section 3.1.2: the state of a string, whose lane (x, y) has the bits from 64 (5 y + x) on.
unfoldable pub to_state : List ℕ → List (List ℕ)
to_state s = state (λ x y. lane_at s (8 * (5 * y + x)))

-- Section 3.1.3: the string of a row, lane after lane.
unfoldable pub row_string : List ℕ → List ℕ
row_string p = concat_map (digits 8 8) p

-- Section 3.1.3: the string of a state, row after row.
unfoldable pub from_state : List (List ℕ) → List ℕ
from_state a = concat_map row_string a

-- Keccak-f[1600] on strings of 200 bytes.
unfoldable pub permute : List ℕ → List ℕ
permute s = from_state (keccak_f (to_state s))

-- The string s with p added to its first bytes, modulo 2: S ⊕ (P ‖ 0…0).
unfoldable pub xor_into : List ℕ → List ℕ → List ℕ
xor_into [] p = []
xor_into (s ∷ ss) [] = s ∷ ss
xor_into (s ∷ ss) (b ∷ bs) = bit_xor s b ∷ xor_into ss bs

-- Bit strings (01, "Bits and streams"): coefficients lie one after another without gaps, bit 0 of each first, filling each
-- byte from its bit 0. Rests on the digits of keccak's Lists.
use Rattle.std.specs.Prelude.{List, map, ℕ, ◌+◌, ◌*◌, ◌/◌, ◌%◌, ◌^◌, ◌<◌, length, get_or}
use Rattle.keccak.specs.Lists.{value, digits}

-- The bytes that m bits fill; the last of them may hold fewer than eight.
abbrev pub bytes_for : ℕ → ℕ
bytes_for m = (m + 7) / 8

-- The bytes of coefficients of w bits each: the number that has the coefficients as its digits in base 2^w, byte by byte.
unfoldable pub pack : ℕ → List ℕ → List ℕ
pack w cs = digits 8 (bytes_for (w * length cs)) (value w cs)

-- The first n coefficients of w bits each in a string of bytes.
unfoldable pub unpack : ℕ → ℕ → List ℕ → List ℕ
unpack w n bs = digits w n (value 8 bs)

-- Each coefficient modulo 2^w.
unfoldable pub low_bits : ℕ → List ℕ → List ℕ
low_bits w cs = map (λ c. c % 2 ^ w) cs

-- Every entry is below b (0 stands for those past the end).
abbrev pub Below : ℕ → List ℕ → Type 0
Below b cs = (i : ℕ) → get_or cs i 0 < b

-- Bit j of a number.
abbrev pub bit : ℕ → ℕ → ℕ
bit j v = v / 2 ^ j % 2

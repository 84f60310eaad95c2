-- Hexadecimal: each byte as two digits in ASCII, the high one first, `a` to `f` in lower case. Rests on keccak's concat_map.
use Rattle.std.specs.Prelude.{cond, List, [], ◌∷◌, ℕ, ◌+◌, ◌/◌, ◌%◌, ltb}
use Rattle.keccak.specs.Lists.{concat_map}

-- The digit of a number below 16: from 48 on stand `0` to `9`, from 97 on `a` to `f`.
abbrev pub digit : ℕ → ℕ
digit d = cond (ltb d 10) (48 + d) (87 + d)

-- The two digits of a byte.
unfoldable pub byte_digits : ℕ → List ℕ
byte_digits b = digit (b / 16) ∷ digit (b % 16) ∷ []

-- The digits of the bytes, one byte after another.
unfoldable pub hexadecimal : List ℕ → List ℕ
hexadecimal bytes = concat_map byte_digits bytes

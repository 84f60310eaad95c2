-- Digits that are moved apart. Rests on nothing.
use Rattle.std.specs.Prelude.{ℕ, ◌+◌, ◌*◌, ◌/◌, ◌%◌, ◌^◌}

-- The first two digits of x in base 2^w, at places of 16 bits.
abbrev pub two_apart : ℕ → ℕ → ℕ
two_apart w x = x % 2 ^ w + x / 2 ^ w % 2 ^ w * 2 ^ 16

-- Integers modulo q, centred values, and the size of integers (01, "Bits and streams" and "Noise"). Rests on lib.IntN's ℤ.
use Rattle.std.specs.Prelude.{◌≡◌, Bool, true, ◌&&◌, List, [], ◌∷◌, ℕ, ◌-◌, ◌%◌, max, ℤ, pos, negsuc, nat_abs, ◌+ℤ◌, ◌-ℤ◌, ◌*ℤ◌}
use Rattle.std.specs.Int.Signed.{lt_z}

-- x and y are congruent modulo q: they differ by a multiple of q.
pub record Cong (q : ℕ) (x y : ℤ) : Type 0 where
  pub times : ℤ
  pub differ : x ≡ y +ℤ pos q *ℤ times

-- The number in 0 to q − 1 that is congruent to x; negsuc n is −(n + 1).
unfoldable pub residue : ℕ → ℤ → ℕ
residue q (pos n) = n % q
residue q (negsuc n) = (q - 1) - n % q

-- A value less p.
abbrev pub centred : ℕ → ℕ → ℤ
centred p v = pos v -ℤ pos p

-- The largest absolute value, 0 where there is none.
unfoldable pub largest : List ℤ → ℕ
largest [] = 0
largest (x ∷ xs) = max (nat_abs x) (largest xs)

-- x lies strictly between low and high.
abbrev pub between : ℤ → ℤ → ℤ → Bool
between low high x = lt_z low x && lt_z x high

-- All of them lie strictly between low and high.
unfoldable pub all_between : ℤ → ℤ → List ℤ → Bool
all_between low high [] = true
all_between low high (x ∷ xs) = between low high x && all_between low high xs

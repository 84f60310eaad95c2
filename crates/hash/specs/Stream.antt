-- The sponge as a value that takes and gives one byte after another. The laws in `proofs/Laws.antt` say that it gives
-- SHAKE of what it took. Rests on `Shake`.
use Rattle.std.specs.Prelude.{◌≡◌, cond, List, [], ◌∷◌, ℕ, zero, suc, ◌+◌, ◌≤◌, ◌<◌, eqb, get_or, set, replicate}
use Rattle.std.specs.Int.Bits.{bit_xor}
use Rattle.keccak.specs.Strings.{permute}
use Rattle.hash.specs.Shake.{padding}
use Rattle.hash.specs.declared.sponge.Sponge.{Sponge}

-- What every sponge has: a rate within the string, and a place within the block.
pub record Sound (s : Sponge) : Type 0 where
  pub some_rate : 0 < s.rate
  pub rate_fits : s.rate ≤ 200
  pub place : s.at ≤ s.rate

-- The sponge that has taken nothing.
unfoldable pub fresh : ℕ → Sponge
fresh r = record { bytes = replicate 200 0; at = 0; rate = r }

-- The sponge at the start of its next block.
unfoldable pub permuted : Sponge → Sponge
permuted s = record { bytes = permute s.bytes; at = 0; rate = s.rate }

-- The sponge with a place left in its block.
unfoldable pub ready : Sponge → Sponge
ready s = cond (eqb s.at s.rate) (permuted s) s

-- The sponge after one byte more of input.
unfoldable pub absorb_byte : Sponge → ℕ → Sponge
absorb_byte s b =
    let t = ready s in
    record { bytes = set t.bytes t.at (bit_xor (get_or t.bytes t.at 0) b); at = t.at + 1; rate = t.rate }

-- The sponge after more input.
unfoldable pub absorbed : Sponge → List ℕ → Sponge
absorbed s [] = s
absorbed s (b ∷ bs) = absorbed (absorb_byte s b) bs

-- The sponge whose input is complete: SHAKE's padding is absorbed.
unfoldable pub finished : Sponge → Sponge
finished s = absorbed s (padding s.rate s.at)

-- The next byte of output.
unfoldable pub next_byte : Sponge → ℕ
next_byte s = get_or (ready s).bytes (ready s).at 0

-- The sponge after one byte of output.
unfoldable pub passed : Sponge → Sponge
passed s = let t = ready s in record { bytes = t.bytes; at = t.at + 1; rate = t.rate }

-- The next n bytes of output.
unfoldable pub squeezed : Sponge → ℕ → List ℕ
squeezed s zero = []
squeezed s (suc n) = next_byte s ∷ squeezed (passed s) n

-- The sponge after n bytes of output.
unfoldable pub advanced : Sponge → ℕ → Sponge
advanced s zero = s
advanced s (suc n) = advanced (passed s) n

-- What squeezing n bytes gives: the sponge r and the output.
pub record Squeezed (s : Sponge) (n : ℕ) (r : Sponge) (output : List ℕ) : Type 0 where
  pub sponge : r ≡ advanced s n
  pub bytes : output ≡ squeezed s n

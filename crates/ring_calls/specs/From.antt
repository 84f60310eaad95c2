-- What the call that reads from any bit of a string on leaves. Rests on `Outcome` and on the reader's definitions.
use Rattle.std.specs.Prelude.{List, ℕ, ◌+◌, ◌*◌, ◌/◌, ◌%◌, ◌≤◌, ◌<◌, length}
use Rattle.packing.specs.Reading.{unpack_from}
use Rattle.ring_calls.specs.Outcome.{Outcome}

-- A string of m bytes has n coefficients of w bits from this bit of this byte on.
pub record Reachable (w byte bit n m : ℕ) : Type 0 where
  pub narrow : w ≤ 16
  pub within : bit < 8
  pub few : n ≤ 65536
  pub inside : 8 * byte + bit + w * n ≤ 8 * m

-- The coefficients, and the byte and the bit after them, or what was there before where the string does not have them.
pub record UnpackedFrom (w byte bit : ℕ) (src : List ℕ) (status : ℕ) (entry exit : List ℕ) (byte₀ byte₁ bit₀ bit₁ : ℕ) : Type 0 where
  pub coefficients :
      Outcome (Reachable w byte bit (length entry) (length src)) status exit entry (unpack_from (8 * byte + bit) w (length entry) src)
  pub byte_after :
      Outcome (Reachable w byte bit (length entry) (length src)) status byte₁ byte₀ ((8 * byte + bit + w * length entry) / 8)
  pub bit_after :
      Outcome (Reachable w byte bit (length entry) (length src)) status bit₁ bit₀ ((8 * byte + bit + w * length entry) % 8)

-- What the smaller functions of `keccak` ensure besides their values.
use Rattle.std.specs.Prelude.{◌≡◌, List, [], ℕ, ◌<◌, get_or}
use Rattle.keccak.specs.Keccak.{state, offset}

-- Five offsets, each below the width of a lane.
pub record Offsets (n : List ℕ) : Type 0 where
  pub at0 : get_or n 0 0 < 64
  pub at1 : get_or n 1 0 < 64
  pub at2 : get_or n 2 0 < 64
  pub at3 : get_or n 3 0 < 64
  pub at4 : get_or n 4 0 < 64

-- The table of rho: the offset of each lane, row by row, and their bounds.
pub record OffsetTable (t : List (List ℕ)) : Type 0 where
  pub rule : t ≡ state offset
  pub row0 : Offsets (get_or t 0 [])
  pub row1 : Offsets (get_or t 1 [])
  pub row2 : Offsets (get_or t 2 [])
  pub row3 : Offsets (get_or t 3 [])
  pub row4 : Offsets (get_or t 4 [])

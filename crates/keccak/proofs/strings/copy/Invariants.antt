-- `keccak::strings::copy` meets its contract: what stands before i is copied.
-- Assumes nothing.
use mathlib.Core.Path.{◌≡◌}
use mathlib.Core.List.{List}
use Prim.Native.Nat.{ℕ, ◌≤◌}
use lib.ListN.{length, take}
use Rattle.keccak.proofs.strings.copy.Given as goal

-- What stands before i is copied, and the length is as it was.
pub record Copied (dst₀ src : List ℕ) (i : ℕ) (dst : List ℕ) : Type 0 where
  pub within : i ≤ length src
  pub long : length dst ≡ length dst₀
  pub front : take i dst ≡ take i src

abbrev pub invariant-loop-i : goal.invariant-loop-i
invariant-loop-i l = Copied l.initial.dst l.src l.i l.dst

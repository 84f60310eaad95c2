-- `decryption_calls::padding::ending` meets its contract: after i turns it is known how the first i bytes end.
-- Assumes nothing.
use Rattle.std.proofs.Common.{◌≡◌, ◌≤◌, ℕ, List, length, take}
use Rattle.kindi.specs.Decrypt.{ending}
use Rattle.decryption_calls.specs.Fitting.{ending_of}
use Rattle.decryption_calls.proofs.padding.ending.Given as goal

-- How the first i bytes end: the last that is not 0, and its place.
pub record Ended (xs : List ℕ) (i mark len : ℕ) : Type 0 where
  pub within : i ≤ length xs
  pub short : len ≤ i
  pub ends : ending (take i xs) ≡ ending_of xs mark len

abbrev pub invariant-loop-i : goal.invariant-loop-i
invariant-loop-i l = Ended l.c l.i l.mark l.len

-- `noise_calls::choose::search` meets its contract: after i turns it is known of the first i coins whether some are clear, and
-- the stream of γ is still there.
-- Assumes nothing.
use mathlib.Core.Path.{◌≡◌}
use Prim.Native.Nat.{ℕ}
use lib.ListN.{length}
use Rattle.noise.specs.Rooms.{Kept}
use Rattle.noise_calls.proofs.Places.{Searching}
use mathlib.Core.Bool.{Bool}
use mathlib.Core.List.{List}
use Rattle.kindi.specs.declared.Params.{Params}
use Rattle.noise_calls.specs.Fitting.{SearchRoom}
use Rattle.noise_calls.proofs.choose.search.Given as goal

-- The arguments are as they were asked, the work area keeps its length and the stream of γ, and i coins are tried.
pub record Turns (p : Params) (sk b message list work₀ work : List ℕ) (i : ℕ) (found : Bool) (place : ℕ) : Type 0 where
  pub room : SearchRoom p sk b message list work₀
  pub long : length work ≡ length work₀
  pub kept : Kept p sk work
  pub so_far : Searching p sk message list i found place

abbrev pub invariant-loop-i : goal.invariant-loop-i
invariant-loop-i l = Turns l.p l.sk l.b l.message l.list l.initial.work l.work l.i l.found l.place

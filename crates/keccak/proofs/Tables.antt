-- A table's rule, carried from the whole table to what the permutation reads of it. Assumes nothing.
use mathlib.Core.Path.{◌≡◌, ap, ◌∙◌}
use mathlib.Core.List.{List}
use Prim.Native.Nat.{ℕ, ◌<◌}
use lib.ListN.{get_or}
use Rattle.keccak.proofs.Entries.{tabulate_at}
use Rattle.keccak.specs.Keccak.{state, lane, five, rotl, offset, rho, round_constant}
use Rattle.keccak.specs.Lists.{tabulate}

-- Rows turned by the offsets of the walk are the rows of rho.
pub rho_by_table : (t a : List (List ℕ)) → t ≡ state offset → five (λ y. five (λ x. rotl (lane t x y) (lane a x y))) ≡ rho a
unfolding rho
rho_by_table t a rule = ap (λ (n : List (List ℕ)). five (λ y. five (λ x. rotl (lane n x y) (lane a x y)))) rule

-- Each entry of the round constants is the constant of its round.
pub constant_at : (t : List ℕ) (i : ℕ) → t ≡ tabulate 24 round_constant → i < 24 → get_or t i 0 ≡ round_constant i
constant_at t i rule h = ap (λ (l : List ℕ). get_or l i 0) rule ∙ tabulate_at 24 round_constant i 0 h

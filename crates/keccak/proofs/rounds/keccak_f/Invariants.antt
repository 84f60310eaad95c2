-- `keccak::rounds::keccak_f` meets its contract: after i turns the state has had the first i rounds, each with the constant of its round from the table.
-- Assumes nothing.
use Rattle.keccak.specs.Keccak.{rounds}
use Rattle.keccak.proofs.Loops.{Carried}
use Rattle.keccak.proofs.rounds.keccak_f.Given as goal

abbrev pub invariant-loop-constant : goal.invariant-loop-constant
invariant-loop-constant l = Carried 24 (λ k. rounds k l.initial.s) l.constant-index l.s

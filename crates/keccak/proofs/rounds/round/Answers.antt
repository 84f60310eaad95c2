-- `keccak::rounds::round` meets its contract: the five steps, one after another.
-- Assumes nothing.
use Rattle.keccak.specs.Keccak.{round}
use Rattle.keccak.proofs.rounds.round.Goals as goal

pub returns : goal.returns
unfolding round
returns c = cc

-- `keccak::rounds::chi` meets its contract: each row is chi of its row.
-- Assumes nothing.
use Rattle.keccak.proofs.Rows.{five_equal}
use Rattle.keccak.specs.Keccak.{chi}
use Rattle.keccak.proofs.rounds.chi.Goals as goal

pub returns : goal.returns
unfolding chi
returns c = search five_equal

-- `keccak::rounds::theta` meets its contract: the parities are those of the columns, and each row has their effects added.
-- Assumes nothing.
use Rattle.keccak.proofs.Rows.{theta-rows}
use Rattle.keccak.proofs.rounds.theta.Goals as goal

pub returns : goal.returns
returns c = search (theta-rows c.args.a)

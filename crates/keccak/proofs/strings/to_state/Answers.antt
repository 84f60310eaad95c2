-- `keccak::strings::to_state` meets its contract: five rows, one after another.
-- Assumes nothing.
use Rattle.keccak.proofs.Rows.{five_equal}
use Rattle.keccak.specs.Strings.{to_state}
use Rattle.keccak.proofs.strings.to_state.Goals as goal

pub returns : goal.returns
unfolding to_state
returns c = search five_equal

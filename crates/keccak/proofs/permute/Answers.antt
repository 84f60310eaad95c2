-- `keccak::permute` meets its contract: the string of the permuted state of the string. Assumes nothing.
use Rattle.keccak.specs.Strings.{permute}
use Rattle.keccak.proofs.permute.Goals as goal

pub returns : goal.returns
unfolding permute
returns c = cc

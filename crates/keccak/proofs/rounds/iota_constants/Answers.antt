-- `keccak::rounds::iota_constants` meets its contract: the rule is one computation over the whole table.
-- Assumes nothing.
use mathlib.Core.Path.{refl}
use Rattle.keccak.specs.Keccak.{register, rc, round_constant}
use Rattle.keccak.specs.Lists.{tabulate}
use Rattle.keccak.proofs.rounds.iota_constants.Goals as goal

pub returns : goal.returns
unfolding tabulate register rc round_constant
returns c = refl

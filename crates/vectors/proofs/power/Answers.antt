-- `vectors::power` meets its contract.
-- Assumes nothing.
-- `vectors::power` meets its contract.
-- Assumes nothing.
use lib.Pow.{pow-lt}
use native.Mathlib.Nat.{one-mul, mod-eq_of_lt}
use Rattle.vectors.proofs.power.Goals as goal

pub returns : goal.returns
returns c = rw one-mul (mod-eq_of_lt (pow-lt c.requires))

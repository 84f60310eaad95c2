-- `calls::shake::from_place` meets its contract: 15 past the limit, else the bytes from the place on (`FromPlace`).
-- Assumes nothing.
use Rattle.calls.proofs.FromPlace.{shake_refused, shake_exit}
use Rattle.calls.proofs.shake.from_place.Goals as goal

pub returns-in_err-require : goal.returns-in_err-require
returns-in_err-require c = shake_refused c.within.ensures c.from_residual.result c.in_err-require.ensures.refused c.from_residual.ensures.1

pub returns : goal.returns
returns c = shake_exit c.within.ensures c.in_ok-require.ensures.ok c.shake_from.ensures

-- `noise_calls::measure::measure_fitting` meets its contract: the check of the key gives the answer's number (`Fitted`).
-- Assumes nothing.
use Rattle.noise_calls.specs.Fitting.{clear_flag, largest_value}
use Rattle.noise_calls.proofs.Fitted.{measure_room, noise_refused, noise_answered}
use Rattle.noise_calls.proofs.measure.measure_fitting.Goals as goal

pub returns-in_err-require : goal.returns-in_err-require
returns-in_err-require c =
    noise_refused _ _ _ _ _ c.agree.ensures clear_flag largest_value c.from_residual.result _ c.in_err-require.ensures.refused
    c.from_residual.ensures.1

pub measure-requires : goal.measure-requires
measure-requires c = search measure_room

pub returns : goal.returns
returns c = noise_answered _ _ _ _ _ c.agree.ensures c.in_ok-require.ensures.ok c.measure.ensures.0 c.measure.ensures.1

-- `noise_calls::measure::noise_unwiped` meets its contract: the checks, then the inner function, give the answer (`Exits`).
-- Assumes nothing.
use Rattle.std.proofs.Common.{◌≤◌, sym, ◌∙◌, arith}
use lib.Seq.{length-take-le}
use Rattle.noise_calls.specs.Fitting.{clear_flag, largest_value}
use Rattle.noise_calls.proofs.Exits.{noise_refused, noise_fits, noise_exit}
use Rattle.noise_calls.proofs.Places.{value_fits}
use Rattle.noise_calls.proofs.measure.noise_unwiped.Goals as goal

pub returns-in_err-check : goal.returns-in_err-check
returns-in_err-check c =
    noise_refused _ _ _ _ c.requires clear_flag largest_value c.from_residual.result _ c.in_err-check.ensures c.from_residual.ensures.1

pub slice_bounds-b-end : goal.slice_bounds-b-end
slice_bounds-b-end c =
    let fits : c.length_of-end.result ≤ 3072 = omega (arith, value_fits _ c.requires.well) in
    fits

pub slice_bounds-measure_fitting-end : goal.slice_bounds-measure_fitting-end
slice_bounds-measure_fitting-end c =
    let fits : c.length_of-end.result ≤ 3072 = omega (arith, value_fits _ c.requires.well) in
    sym (length-take-le _ _ fits)

pub measure_fitting-requires : goal.measure_fitting-requires
measure_fitting-requires c =
    let fits : c.length_of-end.result ≤ 3072 = omega (arith, value_fits _ c.requires.well) in
    noise_fits _ _ _ _ c.requires _ c.in_ok-check.ensures (length-take-le _ _ fits ∙ c.length_of-end.ensures.0)

pub returns : goal.returns
returns c = noise_exit _ _ _ _ c.requires _ c.in_ok-check.ensures c.measure_fitting.ensures c.measure_fitting.auto.work

-- `noise_calls::choose::choose_unwiped` meets its contract: the checks, then the inner function, give the answer (`Exits`).
-- Assumes nothing.
use Rattle.std.proofs.Common.{◌≤◌, sym, ◌∙◌, arith}
use lib.Seq.{length-take-le}
use Rattle.noise_calls.proofs.Exits.{choose_refused, choose_fits, choose_exit}
use Rattle.noise_calls.proofs.Places.{value_fits}
use Rattle.noise_calls.proofs.choose.choose_unwiped.Goals as goal

pub returns-in_err-check : goal.returns-in_err-check
returns-in_err-check c =
    choose_refused _ _ _ _ c.requires (λ n. n) c.from_residual.result _ c.in_err-check.ensures c.from_residual.ensures.1

pub slice_bounds-b-end : goal.slice_bounds-b-end
slice_bounds-b-end c =
    let fits : c.length_of-end.result ≤ 3072 = omega (arith, value_fits _ c.requires.well) in
    fits

pub slice_bounds-choose_fitting-end : goal.slice_bounds-choose_fitting-end
slice_bounds-choose_fitting-end c =
    let fits : c.length_of-end.result ≤ 3072 = omega (arith, value_fits _ c.requires.well) in
    sym (length-take-le _ _ fits)

pub choose_fitting-requires : goal.choose_fitting-requires
choose_fitting-requires c =
    let fits : c.length_of-end.result ≤ 3072 = omega (arith, value_fits _ c.requires.well) in
    choose_fits _ _ _ _ c.requires _ c.in_ok-check.ensures (length-take-le _ _ fits ∙ c.length_of-end.ensures.0)

pub returns : goal.returns
returns c = choose_exit _ _ _ _ c.requires _ c.in_ok-check.ensures c.choose_fitting.ensures c.choose_fitting.auto.work

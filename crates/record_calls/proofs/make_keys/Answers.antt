-- `record_calls::make_keys` meets its contract: the body is cut up at its lengths, and the record gives what the call leaves.
-- Assumes nothing.
use mathlib.Core.Path.{refl, sym}
use Prim.Native.Nat.{◌*◌}
use native.Mathlib.Omega.{arith}
use lib.Seq.{length-take-le}
use Rattle.kindi.specs.Answers.{differs}
use Rattle.calls.proofs.Refused.{refusal_not_0}
use Rattle.record_calls.proofs.ByKind.{keygen-early, keygen_gives}
use Rattle.record_calls.proofs.Sizes.{sized}
use Rattle.record_calls.proofs.Outcomes.{Ready, ready_exact, refused_outcome, answered_outcome}
use Rattle.record_calls.proofs.make_keys.Goals as goal

pub returns-in_err-check : goal.returns-in_err-check
returns-in_err-check c =
    keygen-early c.args.body.now c.parameters-p.ensures c.in_err-check.ensures (refusal_not_0 _)
    (refused_outcome 0 0 c.from_residual.result _ c.from_residual.ensures.1)

pub slice_bounds-keygen-end-4 : goal.slice_bounds-keygen-end-4
slice_bounds-keygen-end-4 c = omega (arith, sized _ c.parameters-p.ensures.well)

pub slice_bounds-keygen-end-5 : goal.slice_bounds-keygen-end-5
slice_bounds-keygen-end-5 c = sym (length-take-le _ _ (omega (arith, sized _ c.parameters-p.ensures.well)))

pub slice_bounds-keygen-end-6 : goal.slice_bounds-keygen-end-6
slice_bounds-keygen-end-6 c = omega (arith, sized _ c.parameters-p.ensures.well)

pub slice_bounds-keygen-end-7 : goal.slice_bounds-keygen-end-7
slice_bounds-keygen-end-7 c = sym (length-take-le _ _ (omega (arith, sized _ c.parameters-p.ensures.well)))

pub slice_bounds-keygen-end-8 : goal.slice_bounds-keygen-end-8
slice_bounds-keygen-end-8 c = omega (arith, sized _ c.parameters-p.ensures.well)

pub slice_bounds-keygen-end-9 : goal.slice_bounds-keygen-end-9
slice_bounds-keygen-end-9 c = sym (length-take-le _ _ (omega (arith, sized _ c.parameters-p.ensures.well)))

pub returns-in_err-keygen : goal.returns-in_err-keygen
returns-in_err-keygen c =
    let ready : Ready c.args.set c.parameters-p.result differs (3 * c.parameters-p.result.seed)
    c.args.body.now c.args.first.now c.args.second.now c.args.work.now =
    ready_exact c.requires c.parameters-p.ensures c.in_ok-check.ensures refl in
    keygen_gives ready c.public_key-public.ensures.0 c.secret_key-secret.ensures c.keygen_work-need.ensures
    c.in_err-keygen.ensures
    (refused_outcome c.public_key-public.result c.secret_key-secret.result c.from_residual-in_err-keygen.result _ c.from_residual-in_err-keygen.ensures.1)
    c.keygen.auto.pk c.keygen.auto.sk

pub returns : goal.returns
returns c =
    let ready : Ready c.args.set c.parameters-p.result differs (3 * c.parameters-p.result.seed)
    c.args.body.now c.args.first.now c.args.second.now c.args.work.now =
    ready_exact c.requires c.parameters-p.ensures c.in_ok-check.ensures refl in
    keygen_gives ready c.public_key-public.ensures.0 c.secret_key-secret.ensures c.keygen_work-need.ensures
    c.in_ok-keygen.ensures (answered_outcome c.public_key-public.result c.secret_key-secret.result)
    c.keygen.auto.pk c.keygen.auto.sk

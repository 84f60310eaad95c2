-- `record_calls::decapsulate` meets its contract: the body is cut up at its lengths, and the record gives what the call leaves.
-- Assumes nothing.
use mathlib.Core.Path.{refl, sym}
use Prim.Native.Nat.{◌+◌}
use native.Mathlib.Omega.{arith}
use lib.Seq.{length-take-le}
use Rattle.kindi.specs.Answers.{differs}
use Rattle.calls.proofs.Refused.{refusal_not_0}
use Rattle.record_calls.proofs.ByKind.{decaps-early, decaps_gives}
use Rattle.record_calls.proofs.Outcomes.{Ready, ready_exact, refused_outcome, answered_outcome}
use Rattle.record_calls.proofs.Sizes.{sized, secret_short}
use Rattle.record_calls.proofs.decapsulate.Goals as goal

pub overflow_add-secret : goal.overflow_add-secret
overflow_add-secret c = omega (arith, secret_short)

pub returns-in_err-check : goal.returns-in_err-check
returns-in_err-check c =
    decaps-early c.args.body.now c.parameters-p.ensures c.secret_key-secret.ensures c.ciphertext.ensures.0 c.in_err-check.ensures (refusal_not_0 _)
    (refused_outcome 0 0 c.from_residual.result _ c.from_residual.ensures.1)

pub slice_bounds-decaps-end-5 : goal.slice_bounds-decaps-end-5
slice_bounds-decaps-end-5 c = omega (arith, sized _ c.parameters-p.ensures.well)

pub slice_bounds-decaps-end-6 : goal.slice_bounds-decaps-end-6
slice_bounds-decaps-end-6 c = sym (length-take-le _ _ (omega (arith, sized _ c.parameters-p.ensures.well)))

pub returns-in_err-decaps : goal.returns-in_err-decaps
returns-in_err-decaps c =
    let ready : Ready c.args.set c.parameters-p.result differs (c.secret_key-secret.result + c.ciphertext.result)
    c.args.body.now c.args.first.now c.args.second.now c.args.work.now =
    ready_exact c.requires c.parameters-p.ensures c.in_ok-check.ensures refl in
    decaps_gives ready c.secret_key-secret.ensures c.ciphertext.ensures.0 c.decrypt_work-need.ensures
    c.in_err-decaps.ensures (refused_outcome c.parameters-p.result.coins 0 c.from_residual-in_err-decaps.result _ c.from_residual-in_err-decaps.ensures.1)
    c.decaps.auto.key

pub returns : goal.returns
returns c =
    let ready : Ready c.args.set c.parameters-p.result differs (c.secret_key-secret.result + c.ciphertext.result)
    c.args.body.now c.args.first.now c.args.second.now c.args.work.now =
    ready_exact c.requires c.parameters-p.ensures c.in_ok-check.ensures refl in
    decaps_gives ready c.secret_key-secret.ensures c.ciphertext.ensures.0 c.decrypt_work-need.ensures
    c.in_ok-decaps.ensures (answered_outcome c.parameters-p.result.coins 0) c.decaps.auto.key

-- `record_calls::decrypt_message` meets its contract: the body is cut up at its lengths, and the record gives what the call leaves.
-- Assumes nothing.
use mathlib.Core.Path.{refl, sym}
use Prim.Native.Nat.{◌+◌}
use native.Mathlib.Omega.{arith}
use lib.Seq.{length-take-le}
use Rattle.kindi.specs.Answers.{differs}
use Rattle.calls.proofs.Refused.{refusal_not_0}
use Rattle.record_calls.proofs.ByKind.{decrypt-early, decrypt_gives}
use Rattle.record_calls.proofs.Outcomes.{Ready, ready_exact, refused_outcome, answered_outcome}
use Rattle.record_calls.proofs.Sizes.{sized, secret_short}
use Rattle.record_calls.proofs.decrypt_message.Goals as goal

pub overflow_add-secret : goal.overflow_add-secret
overflow_add-secret c = omega (arith, secret_short)

pub returns-in_err-check : goal.returns-in_err-check
returns-in_err-check c =
    decrypt-early c.args.body.now c.parameters-p.ensures c.secret_key-secret.ensures c.ciphertext.ensures.0 c.in_err-check.ensures (refusal_not_0 _)
    (refused_outcome 0 0 c.from_residual.result _ c.from_residual.ensures.1)

pub slice_bounds-decrypt-end-7 : goal.slice_bounds-decrypt-end-7
slice_bounds-decrypt-end-7 c = omega (arith, sized _ c.parameters-p.ensures.well)

pub slice_bounds-decrypt-end-8 : goal.slice_bounds-decrypt-end-8
slice_bounds-decrypt-end-8 c = sym (length-take-le _ _ (omega (arith, sized _ c.parameters-p.ensures.well)))

pub returns-in_err-length : goal.returns-in_err-length
returns-in_err-length c =
    let ready : Ready c.args.set c.parameters-p.result differs (c.secret_key-secret.result + c.ciphertext.result)
    c.args.body.now c.args.first.now c.args.second.now c.args.work.now =
    ready_exact c.requires c.parameters-p.ensures c.in_ok-check.ensures refl in
    decrypt_gives ready c.secret_key-secret.ensures c.ciphertext.ensures.0 c.padded-most.ensures.0 c.decrypt_work-need.ensures
    c.in_err-length.ensures (refused_outcome c.parameters-p.result.coins 0 c.from_residual-in_err-length.result _ c.from_residual-in_err-length.ensures.1)
    c.decrypt.auto.coins c.decrypt.auto.message

pub returns : goal.returns
returns c =
    let ready : Ready c.args.set c.parameters-p.result differs (c.secret_key-secret.result + c.ciphertext.result)
    c.args.body.now c.args.first.now c.args.second.now c.args.work.now =
    ready_exact c.requires c.parameters-p.ensures c.in_ok-check.ensures refl in
    decrypt_gives ready c.secret_key-secret.ensures c.ciphertext.ensures.0 c.padded-most.ensures.0 c.decrypt_work-need.ensures
    c.in_ok-length.ensures (answered_outcome c.parameters-p.result.coins c.in_ok-length.length)
    c.decrypt.auto.coins c.decrypt.auto.message

-- `record_calls::encapsulate` meets its contract: the body is cut up at its lengths, and the record gives what the call leaves.
-- Assumes nothing.
use mathlib.Core.Path.{refl, sym}
use Prim.Native.Nat.{◌+◌}
use native.Mathlib.Omega.{arith}
use lib.Seq.{length-take-le}
use Rattle.kindi.specs.Answers.{differs}
use Rattle.calls.proofs.Refused.{refusal_not_0}
use Rattle.record_calls.proofs.ByKind.{encaps-early, encaps_gives}
use Rattle.record_calls.proofs.Sizes.{sized}
use Rattle.record_calls.proofs.Outcomes.{Ready, ready_exact, refused_outcome, answered_outcome}
use Rattle.record_calls.proofs.encapsulate.Goals as goal

pub returns-in_err-check : goal.returns-in_err-check
returns-in_err-check c =
    encaps-early c.args.body.now c.parameters-p.ensures c.public_key-public.ensures.0 c.in_err-check.ensures (refusal_not_0 _)
    (refused_outcome 0 0 c.from_residual.result _ c.from_residual.ensures.1)

pub slice_bounds-encaps-end-7 : goal.slice_bounds-encaps-end-7
slice_bounds-encaps-end-7 c = omega (arith, sized _ c.parameters-p.ensures.well)

pub slice_bounds-encaps-end-8 : goal.slice_bounds-encaps-end-8
slice_bounds-encaps-end-8 c = sym (length-take-le _ _ (omega (arith, sized _ c.parameters-p.ensures.well)))

pub returns-in_err-encaps : goal.returns-in_err-encaps
returns-in_err-encaps c =
    let ready : Ready c.args.set c.parameters-p.result differs (c.public_key-public.result + c.parameters-p.result.coins)
    c.args.body.now c.args.first.now c.args.second.now c.args.work.now =
    ready_exact c.requires c.parameters-p.ensures c.in_ok-check.ensures refl in
    encaps_gives ready c.public_key-public.ensures.0 c.ciphertext-cipher.ensures.0 c.encrypt_work-need.ensures.0
    c.in_err-encaps.ensures
    (refused_outcome c.parameters-p.result.coins c.ciphertext-cipher.result c.from_residual-in_err-encaps.result _ c.from_residual-in_err-encaps.ensures.1)
    c.encaps.auto.key c.encaps.auto.ct

pub returns : goal.returns
returns c =
    let ready : Ready c.args.set c.parameters-p.result differs (c.public_key-public.result + c.parameters-p.result.coins)
    c.args.body.now c.args.first.now c.args.second.now c.args.work.now =
    ready_exact c.requires c.parameters-p.ensures c.in_ok-check.ensures refl in
    encaps_gives ready c.public_key-public.ensures.0 c.ciphertext-cipher.ensures.0 c.encrypt_work-need.ensures.0
    c.in_ok-encaps.ensures (answered_outcome c.parameters-p.result.coins c.ciphertext-cipher.result)
    c.encaps.auto.key c.encaps.auto.ct

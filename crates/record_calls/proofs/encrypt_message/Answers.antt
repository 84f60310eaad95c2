-- `record_calls::encrypt_message` meets its contract: the body is cut up at its lengths, and the record gives what the call leaves.
-- Assumes nothing.
use mathlib.Core.Path.{refl, sym}
use Prim.Native.Nat.{◌+◌}
use native.Mathlib.Omega.{arith}
use lib.Seq.{length-take-le}
use lib.Dec.{ltb}
use Rattle.calls.proofs.Refused.{refusal_not_0}
use Rattle.record_calls.proofs.ByKind.{encrypt-early, encrypt_gives}
use Rattle.record_calls.proofs.Sizes.{sized}
use Rattle.record_calls.proofs.Outcomes.{Ready, ready_least, refused_outcome, answered_outcome}
use Rattle.record_calls.proofs.encrypt_message.Goals as goal

pub returns-in_err-check : goal.returns-in_err-check
returns-in_err-check c =
    encrypt-early c.args.body.now c.parameters-p.ensures c.public_key-public.ensures.0 c.in_err-check.ensures (refusal_not_0 _)
    (refused_outcome 0 0 c.from_residual.result _ c.from_residual.ensures.1)

pub slice_bounds-encrypt-end-6 : goal.slice_bounds-encrypt-end-6
slice_bounds-encrypt-end-6 c = omega (arith, sized _ c.parameters-p.ensures.well)

pub slice_bounds-encrypt-end-7 : goal.slice_bounds-encrypt-end-7
slice_bounds-encrypt-end-7 c = sym (length-take-le _ _ (omega (arith, sized _ c.parameters-p.ensures.well)))

pub returns-in_err-encrypt : goal.returns-in_err-encrypt
returns-in_err-encrypt c =
    let ready : Ready c.args.set c.parameters-p.result ltb (c.public_key-public.result + c.parameters-p.result.coins)
    c.args.body.now c.args.first.now c.args.second.now c.args.work.now =
    ready_least c.requires c.parameters-p.ensures c.in_ok-check.ensures refl in
    encrypt_gives ready c.public_key-public.ensures.0 c.ciphertext-cipher.ensures.0 c.encrypt_work-need.ensures.0
    c.in_err-encrypt.ensures (refused_outcome c.ciphertext-cipher.result 0 c.from_residual-in_err-encrypt.result _ c.from_residual-in_err-encrypt.ensures.1)
    c.encrypt.auto.ct

pub returns : goal.returns
returns c =
    let ready : Ready c.args.set c.parameters-p.result ltb (c.public_key-public.result + c.parameters-p.result.coins)
    c.args.body.now c.args.first.now c.args.second.now c.args.work.now =
    ready_least c.requires c.parameters-p.ensures c.in_ok-check.ensures refl in
    encrypt_gives ready c.public_key-public.ensures.0 c.ciphertext-cipher.ensures.0 c.encrypt_work-need.ensures.0
    c.in_ok-encrypt.ensures (answered_outcome c.ciphertext-cipher.result 0) c.encrypt.auto.ct

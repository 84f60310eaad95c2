-- `decryption_calls::decrypt::open_message` meets its contract: the last checks give the answer's number (`Fitted`).
-- Assumes nothing.
use mathlib.Core.Path.{sym, ◌∙◌}
use native.Mathlib.Omega.{arith}
use lib.ListN.{length-take, length-drop}
use Rattle.decryption_calls.proofs.Fitted.{refused_message, passed_message, message_refused, message_short, message_answered, MessageChecks}
use Rattle.decryption_calls.proofs.decrypt.open_message.Goals as goal

pub returns-in_err-require : goal.returns-in_err-require
returns-in_err-require c =
    let checks : MessageChecks c.args.p c.args.sk.now c.args.ct.now c.recover_coins.new.coins
    c.open-fits.new.work c.open-fits.result c.low-at.result c.padded.result
    c.ending-ended.result.mark c.ending-ended.result.len =
    record {
      opening = record {
        well = c.requires.room.well;
        coins_are = c.recover_coins.ensures;
        exit = c.open-fits.ensures;
        low_is = c.low-at.ensures.0;
        padded_is = c.padded.ensures.0;
      };
      ends = c.ending-ended.ensures.0;
      within = c.ending-ended.ensures.1;
    } in
    let bad = c.in_err-require.ensures.refused in
    message_refused checks (λ n. n) _ _ c.from_residual.result _ (refused_message _ _ (bad.0, bad.1 ∙ c.select-refusal.ensures))
    c.from_residual.ensures.1

pub copy_from_slice-requires : goal.copy_from_slice-requires
copy_from_slice-requires c = c.requires.coins_long ∙ sym (c.recover_coins.auto.coins ∙ c.requires.room.coins_long)

pub slice_bounds-write_message-end : goal.slice_bounds-write_message-end
slice_bounds-write_message-end c =
    let short = simp (length-take, length-drop) at c.ending-ended.ensures.1 in
    omega (
      arith,
      c.requires.room.work_long,
      c.open-fits.auto.work,
      c.recover_coins.auto.work,
      c.low-at.ensures.0,
      c.padded.ensures.0,
    )

pub write_message-requires : goal.write_message-requires
write_message-requires c =
    let checks : MessageChecks c.args.p c.args.sk.now c.args.ct.now c.recover_coins.new.coins
    c.open-fits.new.work c.open-fits.result c.low-at.result c.padded.result
    c.ending-ended.result.mark c.ending-ended.result.len =
    record {
      opening = record {
        well = c.requires.room.well;
        coins_are = c.recover_coins.ensures;
        exit = c.open-fits.ensures;
        low_is = c.low-at.ensures.0;
        padded_is = c.padded.ensures.0;
      };
      ends = c.ending-ended.ensures.0;
      within = c.ending-ended.ensures.1;
    } in
    let short = message_short checks (passed_message c.open-fits.result c.ending-ended.result.mark c.in_ok-require.ensures.ok) in
    simp (length-take, length-drop) (omega (arith, c.requires.message_long))

pub returns : goal.returns
returns c =
    let checks : MessageChecks c.args.p c.args.sk.now c.args.ct.now c.recover_coins.new.coins
    c.open-fits.new.work c.open-fits.result c.low-at.result c.padded.result
    c.ending-ended.result.mark c.ending-ended.result.len =
    record {
      opening = record {
        well = c.requires.room.well;
        coins_are = c.recover_coins.ensures;
        exit = c.open-fits.ensures;
        low_is = c.low-at.ensures.0;
        padded_is = c.padded.ensures.0;
      };
      ends = c.ending-ended.ensures.0;
      within = c.ending-ended.ensures.1;
    } in
    message_answered checks _ _ (passed_message c.open-fits.result c.ending-ended.result.mark c.in_ok-require.ensures.ok)
    c.copy_from_slice.ensures.after c.write_message.ensures

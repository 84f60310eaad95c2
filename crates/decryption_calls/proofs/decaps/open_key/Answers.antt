-- `decryption_calls::decaps::open_key` meets its contract: the last checks give the answer's number (`Fitted`).
-- Assumes nothing.
use mathlib.Core.Path.{◌∙◌}
use Prim.Native.Nat.{◌+◌, ◌≤◌}
use native.Mathlib.Omega.{arith}
use lib.ListN.{length}
use Rattle.vectors.proofs.Amounts.{part_length}
use Rattle.vectors.proofs.Joining.{same_long}
use Rattle.decryption_calls.proofs.Fitted.{refused_key, passed_key, key_refused, key_answered, KeyChecks}
use Rattle.decryption_calls.proofs.decaps.open_key.Goals as goal

pub add_padded-requires : goal.add_padded-requires
add_padded-requires c =
    let place : c.low-at.result + c.padded.result ≤ length c.open-fits.new.work =
    omega (
      arith,
      c.open-fits.auto.work,
      c.recover_coins.auto.work,
      c.requires.room.work_long,
      c.low-at.ensures.0,
      c.padded.ensures.0,
    ) in
    let pre = c.requires in
    let long = part_length c.low-at.result c.padded.result
    c.open-fits.new.work (place) in
    omega (
      arith,
      long,
      c.digest.auto.d,
      pre.digest_long,
      pre.room.well.digest_fits,
      c.padded.ensures.0,
    )

pub slice_bounds-all_zero-end : goal.slice_bounds-all_zero-end
slice_bounds-all_zero-end c =
    let place : c.low-at.result + c.padded.result ≤ length c.open-fits.new.work =
    omega (
      arith,
      c.open-fits.auto.work,
      c.recover_coins.auto.work,
      c.requires.room.work_long,
      c.low-at.ensures.0,
      c.padded.ensures.0,
    ) in
    let at = c.low-at.result in
    let same = same_long at c.padded.result c.add_padded.new.dst
    c.open-fits.new.work (place) c.add_padded.auto.dst in
    omega (arith, same, place)

pub returns-in_err-require : goal.returns-in_err-require
returns-in_err-require c =
    let checks : KeyChecks c.args.p c.args.sk.now c.args.ct.now c.recover_coins.new.coins
    c.open-fits.new.work c.open-fits.result c.low-at.result c.padded.result
    c.digest.new.d c.add_padded.new.dst c.all_zero-equal.result =
    record {
      opening = record {
        well = c.requires.room.well;
        coins_are = c.recover_coins.ensures;
        exit = c.open-fits.ensures;
        low_is = c.low-at.ensures.0;
        padded_is = c.padded.ensures.0;
      };
      digest_is = c.digest.ensures;
      added_is = c.add_padded.ensures;
      equal_is = c.all_zero-equal.ensures;
    } in
    let bad = c.in_err-require.ensures.refused in
    key_refused checks _ c.from_residual.result _ (refused_key _ _ (bad.0, bad.1 ∙ c.select-refusal.ensures)) c.from_residual.ensures.1

pub shared_key-requires : goal.shared_key-requires
shared_key-requires c =
    let pre = c.requires in
    (pre.room.well, pre.key_long)

pub shape_of-found : goal.shape_of-found
shape_of-found c = c.recover_coins.auto.coins

pub returns : goal.returns
returns c =
    let checks : KeyChecks c.args.p c.args.sk.now c.args.ct.now c.recover_coins.new.coins
    c.open-fits.new.work c.open-fits.result c.low-at.result c.padded.result
    c.digest.new.d c.add_padded.new.dst c.all_zero-equal.result =
    record {
      opening = record {
        well = c.requires.room.well;
        coins_are = c.recover_coins.ensures;
        exit = c.open-fits.ensures;
        low_is = c.low-at.ensures.0;
        padded_is = c.padded.ensures.0;
      };
      digest_is = c.digest.ensures;
      added_is = c.add_padded.ensures;
      equal_is = c.all_zero-equal.ensures;
    } in
    key_answered checks _ (passed_key _ _ c.in_ok-require.ensures.ok) c.shared_key.ensures

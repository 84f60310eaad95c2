-- `decryption_calls::decaps::decaps_unwiped` meets its contract: the checks, then the inner function, give the answer (`Exits`).
-- Assumes nothing.
use Rattle.std.proofs.Common.{refl}
use Rattle.decryption_calls.proofs.Exits.{decaps_refused, decaps_fits, decaps_exit, coins_room}
use Rattle.decryption_calls.proofs.decaps.decaps_unwiped.Goals as goal

pub returns-in_err-check : goal.returns-in_err-check
returns-in_err-check c = decaps_refused _ _ _ _ c.requires c.from_residual.result _ c.in_err-check.ensures c.from_residual.ensures.1

pub open_key-requires : goal.open_key-requires
open_key-requires c =
    decaps_fits _ _ _ _ c.requires _ _ c.in_ok-check.ensures (coins_room _ _ c.requires.well refl) (coins_room _ _ c.requires.well refl)

pub returns : goal.returns
returns c = decaps_exit _ _ _ _ c.requires _ c.in_ok-check.ensures c.open_key.ensures c.open_key.auto.work

-- `decryption_calls::decrypt::decrypt_unwiped` meets its contract: the checks, then the inner function, give the answer (`Exits`).
-- Assumes nothing.
use Rattle.std.proofs.Common.{refl}
use Rattle.decryption_calls.proofs.Exits.{decrypt_refused, decrypt_fits, decrypt_exit, coins_room}
use Rattle.decryption_calls.proofs.decrypt.decrypt_unwiped.Goals as goal

pub returns-in_err-check : goal.returns-in_err-check
returns-in_err-check c =
    decrypt_refused _ _ _ _ _ c.requires (λ n. n) c.from_residual.result _ c.in_err-check.ensures c.from_residual.ensures.1

pub open_message-requires : goal.open_message-requires
open_message-requires c = decrypt_fits _ _ _ _ _ c.requires _ c.in_ok-check.ensures (coins_room _ _ c.requires.well refl)

pub returns : goal.returns
returns c = decrypt_exit _ _ _ _ _ c.requires _ c.in_ok-check.ensures c.open_message.ensures c.open_message.auto.work

-- `encryption_calls::encrypt::encrypt_unwiped` meets its contract: the checks' status is the answer's number, and the inner function gives
-- its value (`Exits`). Assumes nothing.
use borrow.Author.Rules.{rules}
use Rattle.encryption_calls.proofs.Exits.{encrypt_refused, encrypt_fits, encrypt_exit}
use Rattle.encryption_calls.proofs.encrypt.encrypt_unwiped.Goals as goal

pub returns-in_err-check : goal.returns-in_err-check
returns-in_err-check c = encrypt_refused _ _ _ _ _ c.requires c.from_residual.result _ c.in_err-check.ensures c.from_residual.ensures.1

pub encrypt-requires : goal.encrypt-requires
encrypt-requires c =
    let a = c.args in
    let fits = encrypt_fits a.pk.now a.coins.now a.message.now a.ct.now a.work.now c.requires c.in_ok-check.ensures in
    search rules

pub returns : goal.returns
returns c = encrypt_exit _ _ _ _ _ c.requires _ c.in_ok-check.ensures c.encrypt.ensures c.encrypt.auto.work

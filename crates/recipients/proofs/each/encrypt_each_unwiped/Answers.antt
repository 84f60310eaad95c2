-- `recipients::each::encrypt_each_unwiped` meets its contract: the checks, the comparison of the coins and the ciphertexts are those of
-- the answer (`Checks`). Assumes nothing.
use Rattle.recipients.proofs.Checks.{each_refused, each_coins_long, each_fits, each_equal, each_exit}
use Rattle.recipients.proofs.each.encrypt_each_unwiped.Goals as goal

pub returns-in_err-check : goal.returns-in_err-check
returns-in_err-check c = each_refused _ _ _ _ _ _ c.requires c.from_residual.result _ c.in_err-check.ensures c.from_residual.ensures.1

pub equal_coins-requires : goal.equal_coins-requires
equal_coins-requires c =
    let a = c.args in
    each_coins_long a.count a.keys.now a.list.now a.message.now a.cts.now a.work.now c.requires c.in_ok-check.ensures

pub returns-in_err-require : goal.returns-in_err-require
returns-in_err-require c =
    each_equal _ _ _ _ _ _ c.requires c.from_residual-in_err-require.result _ c.equal_coins.result c.in_ok-check.ensures c.equal_coins.ensures
    c.in_err-require.ensures.refused c.from_residual-in_err-require.ensures.1

pub encrypt_parts-requires : goal.encrypt_parts-requires
encrypt_parts-requires c = each_fits _ _ _ _ _ _ c.requires c.in_ok-check.ensures

pub returns : goal.returns
returns c =
    each_exit _ _ _ _ _ _ c.requires _ c.equal_coins.result c.in_ok-check.ensures c.equal_coins.ensures c.in_ok-require.ensures.ok
    c.encrypt_parts.ensures c.encrypt_parts.auto.work

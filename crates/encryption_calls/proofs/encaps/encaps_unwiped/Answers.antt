-- `encryption_calls::encaps::encaps_unwiped` meets its contract: the digest, its encryption and the key are those of the answer (`Exits`).
-- Assumes nothing.
use Rattle.std.proofs.Common.{◌∙◌}
use Rattle.encryption_calls.proofs.Exits.{encaps_refused, encaps_fits, key_long, encaps_exit}
use Rattle.encryption_calls.proofs.encaps.encaps_unwiped.Goals as goal

pub returns-in_err-check : goal.returns-in_err-check
returns-in_err-check c = encaps_refused _ _ _ _ _ c.requires c.from_residual.result _ c.in_err-check.ensures c.from_residual.ensures.1

pub digest-requires : goal.digest-requires
digest-requires c =
    let a = c.args in
    (c.requires.well, key_long a.pk.now a.coins.now a.key.now a.ct.now a.work.now c.requires c.in_ok-check.ensures)

pub encrypt-requires : goal.encrypt-requires
encrypt-requires c = encaps_fits _ _ c.args.key.now _ _ c.requires _ c.in_ok-check.ensures c.digest.auto.d

pub shared_key-requires : goal.shared_key-requires
shared_key-requires c =
    let a = c.args in
    (c.requires.well, c.digest.auto.d ∙ key_long a.pk.now a.coins.now a.key.now a.ct.now a.work.now c.requires c.in_ok-check.ensures)

pub returns : goal.returns
returns c = encaps_exit _ _ _ _ _ c.requires _ c.in_ok-check.ensures c.digest.ensures c.encrypt.ensures c.shared_key.ensures c.encrypt.auto.work

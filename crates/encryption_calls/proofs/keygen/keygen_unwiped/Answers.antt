-- `encryption_calls::keygen::keygen_unwiped` meets its contract: the checks' status is the answer's number, and the inner function gives
-- both keys (`Exits`). Assumes nothing.
use borrow.Author.Rules.{rules}
use Rattle.encryption_calls.proofs.Exits.{keygen_refused, keygen_fits, keygen_exit}
use Rattle.encryption_calls.proofs.keygen.keygen_unwiped.Goals as goal

pub returns-in_err-check : goal.returns-in_err-check
returns-in_err-check c = keygen_refused _ _ _ _ _ _ c.requires c.from_residual.result _ c.in_err-check.ensures c.from_residual.ensures.1

pub keygen-requires : goal.keygen-requires
keygen-requires c =
    let a = c.args in
    let fits = keygen_fits a.mu.now a.gamma.now a.z.now a.pk.now a.sk.now a.work.now c.requires c.in_ok-check.ensures in
    search rules

pub returns : goal.returns
returns c = keygen_exit _ _ _ _ _ _ c.requires _ c.in_ok-check.ensures c.keygen.ensures c.keygen.auto.work

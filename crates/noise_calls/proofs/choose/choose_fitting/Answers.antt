-- `noise_calls::choose::choose_fitting` meets its contract: the check of the key and the search give the answer (`Fitted`).
-- Assumes nothing.
use Rattle.noise_calls.proofs.Fitted.{choose_room, key_refused, chosen}
use Rattle.noise_calls.proofs.choose.choose_fitting.Goals as goal

pub returns-in_err-require : goal.returns-in_err-require
returns-in_err-require c =
    key_refused _ _ _ _ _ c.agree.ensures (λ n. n) c.from_residual.result _ c.in_err-require.ensures.refused c.from_residual.ensures.1

pub search-requires : goal.search-requires
search-requires c = search choose_room

pub returns : goal.returns
returns c =
    chosen _ _ _ _ _ c.agree.ensures c.in_ok-require.ensures.ok c.search.result c.ok_or.result c.search.ensures c.ok_or.ensures.value

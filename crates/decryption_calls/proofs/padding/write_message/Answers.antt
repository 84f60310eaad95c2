-- `decryption_calls::padding::write_message` meets its contract.
-- Assumes nothing.
use mathlib.Core.Path.{ap}
use mathlib.Core.List.{List, ◌++◌}
use Prim.Native.Nat.{ℕ}
use lib.ListN.{length, drop}
use Rattle.decryption_calls.proofs.Endings.{message_written}
use Rattle.decryption_calls.proofs.padding.write_message.Goals as goal

pub returns : goal.returns
returns c =
    let a = c.args in
    message_written a.src.now a.dst.now _ c.requires
    (ap (λ (l : List ℕ). l ++ drop (length a.src.now) a.dst.now) c.copy.ensures) c.wipe.ensures

-- `decryption::recover_coins` meets its contract.
-- Assumes nothing.
use Rattle.decryption.proofs.Sums.{seed_taken}
use Rattle.kindi.specs.Decrypt.{rounded_coins}
use Prim.Native.Nat.{ℕ}
use mathlib.Core.List.{List}
use mathlib.Core.Path.{ap, ◌∙◌}
use Rattle.decryption.proofs.recover_coins.Goals as goal

pub returns : goal.returns
returns c =
    let a = c.args in
    c.recover_coins.ensures ∙
    ap (λ (g : List ℕ). rounded_coins a.p g a.ct.now) (seed_taken a.p a.sk.now c.stored.ensures.0)

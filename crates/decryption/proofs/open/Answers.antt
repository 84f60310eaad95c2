-- `decryption::open` meets its contract: what remains of the ciphertext beside the sums, added to the mask.
-- Assumes nothing.
use mathlib.Core.Path.{◌≡◌, sym, ◌∙◌}
use native.Mathlib.Omega.{arith}
use lib.ListN.{length, length-take}
use lib.Seq.{take_at}
use Rattle.decryption.proofs.Sums.{public_taken}
use Rattle.decryption.proofs.Remaining.{open_exit}
use Rattle.decryption.proofs.open.Goals as goal

pub returns : goal.returns
returns c =
    let a = c.args in
    let p = a.p in
    let sums_long : length c.sums_less_cipher.new.sums ≡ c.coefficients-all.result =
    c.sums_less_cipher.auto.sums ∙ simp length-take (omega (arith, c.coefficients-all.ensures.1)) in
    open_exit p c.requires.well a.sk.now a.ct.now a.coins.now c.sums_less_cipher.new.work _
    (rw (sym (public_taken p a.sk.now c.stored.ensures.0)) c.sums_less_cipher.ensures)
    (take_at _ _ _ sums_long) c.unmask.ensures.0 c.unmask.ensures.1

-- `recipients::each::encrypt_parts` meets its contract: after i turns the ciphertexts of the first i recipients are there.
-- Assumes nothing.
use native.Mathlib.Omega.{arith}
use Rattle.recipients.proofs.Places.{sealing_begun, sealing_room, sealing_more, sealing_all}
use Rattle.recipients.proofs.each.encrypt_parts.Goals as goal

pub loop-i-init : goal.loop-i-init
loop-i-init c = sealing_begun c.requires

pub encrypt-requires : goal.encrypt-requires
encrypt-requires c =
    sealing_room c.loop-i.invariant c.loop-i-test.true c.public_key-key.ensures.0 c.ciphertext-part.ensures.0

pub loop-i-preserved : goal.loop-i-preserved
loop-i-preserved c =
    sealing_more c.loop-i.invariant c.loop-i-test.true c.public_key-key.ensures.0 c.ciphertext-part.ensures.0
    c.encrypt.auto.dst c.encrypt.auto.work c.encrypt.ensures

pub returns : goal.returns
returns c = sealing_all c.loop-i.invariant (omega arith)

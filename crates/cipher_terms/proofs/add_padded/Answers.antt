-- `cipher_terms::add_padded` meets its contract.
-- Assumes nothing.
use Rattle.cipher_terms.proofs.Masks.{xor_end}
use Rattle.cipher_terms.proofs.add_padded.Goals as goal

pub returns : goal.returns
returns c =
    let a = c.args in
    rw c.xor_into.ensures (xor_end a.dst.now a.message.now 1 c.requires)

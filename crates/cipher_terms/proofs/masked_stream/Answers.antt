-- `cipher_terms::masked_stream` meets its contract.
-- Assumes nothing.
use Rattle.cipher_terms.proofs.Masks.{masked_made}
use Rattle.cipher_terms.proofs.masked_stream.Goals as goal

pub returns : goal.returns
returns c =
    let a = c.args in
    masked_made a.p a.coins.now a.message.now c.mask.result.start c.mask.result.end
    c.mask.ensures.0 c.mask.ensures.1 c.requires.2 c.shake.ensures
    c.add_padded.ensures

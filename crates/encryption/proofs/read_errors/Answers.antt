-- `encryption::read_errors` meets its contract.
-- Assumes nothing.
use Rattle.encryption.proofs.Cipher.{errors_read, errors_exit}
use Rattle.encryption.proofs.read_errors.Goals as goal

pub small-requires : goal.small-requires
small-requires c =
    errors_read c.requires c.args.coins.now c.coins_stream-stream.ensures.0 c.masked_stream.ensures
    c.mask.result.start c.mask.result.end c.mask.ensures.0 c.mask.ensures.1
    c.width.ensures

pub returns : goal.returns
returns c = search errors_exit

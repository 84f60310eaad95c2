-- `encryption::add_noiseless` meets its contract.
-- Assumes nothing.
use Rattle.encryption.proofs.Sums.{noiseless_exit}
use Rattle.encryption.proofs.add_noiseless.Goals as goal

pub returns : goal.returns
returns c =
    noiseless_exit c.requires c.add_public.ensures c.stored-seed.result c.polynomial.result
    c.add_product.new.bytes c.stored-seed.ensures.0 c.add_product.ensures

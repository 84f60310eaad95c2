-- `encryption::encrypt` meets its contract.
-- Assumes nothing.
use Prim.Native.Nat.{◌+◌}
use lib.ListN.{length}
use mathlib.Core.Path.{ap, ◌∙◌}
use Rattle.vectors.proofs.Amounts.{vector_fills}
use Rattle.vectors.proofs.Congruent.{length-vector}
use Rattle.encryption.proofs.Cipher.{encrypt_exit}
use Rattle.encryption.proofs.encrypt.Goals as goal

pub pack-requires : goal.pack-requires
pack-requires c =
    let room = c.requires in
    let p = c.args.p in
    let long = ap length c.add_noiseless.ensures.sums_are ∙ length-vector _ _ _ in
    (room.well.word, vector_fills p room.well (p.l + 1) p.k long room.cipher_long)

pub returns : goal.returns
returns c = encrypt_exit c.requires c.read_errors.ensures c.add_noiseless.ensures c.pack.ensures

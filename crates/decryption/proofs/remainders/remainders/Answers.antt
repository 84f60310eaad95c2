-- `decryption::remainders::remainders` meets its contract.
-- Assumes nothing.
use Rattle.decryption.proofs.Remaining.{remaining_low}
use Rattle.vectors.proofs.Amounts.{vector_fills}
use Rattle.decryption.specs.Opened.{remainders_from}
use Rattle.vectors.proofs.Amounts.{width_bound}
use Rattle.kindi.specs.Params.{width}
use Rattle.kindi.specs.Decrypt.{all_below}
use Rattle.bits.specs.Bits.{pack, low_bits}
use lib.ListN.{length}
use Prim.Native.Nat.{ℕ, ◌+◌, ◌*◌}
use mathlib.Core.List.{List}
use mathlib.Core.Path.{◌≡◌, ap, ap₂, ◌∙◌}
use Rattle.decryption.proofs.remainders.remainders.Goals as goal

pub pack-requires : goal.pack-requires
pack-requires c =
    let values_long : length c.reduce.new.xs ≡ (c.args.p.l + 1) * c.args.p.n =
    c.reduce.auto.xs ∙ c.subtract_from.auto.xs ∙ c.requires.sums_long in
    let p = c.args.p in
    let W = c.requires.well in (
      rw c.width.ensures (width_bound p W),
      rw c.width.ensures (vector_fills p W (p.l + 1) (width p) (values_long) c.requires.packed_long),
    )

pub returns : goal.returns
returns c =
    let values : c.reduce.new.xs ≡ remainders_from c.args.p c.args.sums.now =
    let a = c.args in
    c.reduce.ensures ∙ ap (low_bits a.p.k) c.subtract_from.ensures
    ∙ remaining_low a.p c.requires.well a.sums.now c.requires.sums_long in
    let p = c.args.p in (
      c.all_below.ensures ∙ ap (all_below (2 * p.p)) (values),
      c.pack.ensures ∙ ap₂ (λ (w : ℕ) (l : List ℕ). pack w (low_bits w l)) c.width.ensures (values),
    )

-- `keys::store` meets its contract.
-- Assumes nothing.
use Rattle.vectors.proofs.Amounts.{vector_fills}
use Rattle.keys.proofs.Made.{packed}
use native.Mathlib.Omega.{arith}
use Prim.Native.Nat.{◌-◌}
use mathlib.Core.Path.{◌∙◌}
use Rattle.keys.proofs.store.Goals as goal

pub pack-requires : goal.pack-requires
pack-requires c =
    let pre = c.requires in
    let p = c.args.p in (
      omega (arith, pre.well.word),
      vector_fills p pre.well p.l (p.k - c.args.t) (c.compress.auto.xs ∙ c.reduce.auto.xs ∙ pre.sums_long) pre.stored_long,
    )

pub returns : goal.returns
returns c =
    let a = c.args in
    packed a.p.k a.t (omega (arith, c.requires.some_kept)) a.sums.now c.reduce.ensures c.compress.ensures
    c.pack.ensures

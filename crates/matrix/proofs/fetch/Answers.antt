-- `matrix::fetch` meets its contract.
-- Assumes nothing.
use mathlib.Core.Path.{sym, ◌∙◌}
use native.Mathlib.Nat.{one-mul}
use native.Mathlib.Omega.{arith}
use Rattle.vectors.proofs.Amounts.{reads}
use Rattle.matrix.proofs.Terms.{fetched}
use Rattle.matrix.proofs.fetch.Goals as goal

pub unpack-requires : goal.unpack-requires
unpack-requires c =
    let p = c.args.p in
    let W = c.requires.well in (
      W.word,
      reads p W 1 p.k (c.requires.list_long ∙ sym (one-mul p.n)) (omega (arith, c.squeeze-next.auto.output, c.requires.bytes_long)),
    )

pub returns : goal.returns
returns c = fetched c.requires c.squeeze-next.ensures c.unpack.ensures

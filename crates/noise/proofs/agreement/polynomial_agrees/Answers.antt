-- `noise::agreement::polynomial_agrees` meets its contract.
-- Assumes nothing.
use mathlib.Core.Path.{ap, ◌∙◌}
use native.Mathlib.Omega.{arith}
use Rattle.kindi.specs.Answers.{same}
use Rattle.vectors.proofs.Amounts.{fills}
use Rattle.noise.proofs.Agreeing.{dropped_is}
use Rattle.noise.proofs.agreement.polynomial_agrees.Goals as goal

pub pack-requires : goal.pack-requires
pack-requires c =
    let pre = c.requires in
    let p = c.args.p in
    let long = c.compress.auto.xs ∙ c.values.auto.dst ∙ pre.0.room_is in
    (omega (arith, pre.0.well.word), fills p pre.0.well _ long pre.2)

pub returns : goal.returns
returns c =
    let a = c.args in
    let dropped = dropped_is a.p c.requires.0.well a.b.now a.i c.values.ensures
    c.compress.ensures c.pack.ensures in
    c.same_bytes.ensures ∙ ap (same a.stored.now) dropped

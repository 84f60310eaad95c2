-- `noise::sums::sizes` meets its contract.
-- Assumes nothing.
use mathlib.Core.Path.{◌≡◌, ap, ◌∙◌}
use Prim.Native.Nat.{◌/◌}
use native.Mathlib.Omega.{arith}
use lib.IntN.{ℤ, pos, neg_ℤ, ◌-ℤ◌, +ℤ_idl}
use lib.ListN.{length, length-take}
use lib.Seq.{take_at}
use mir.Syntax.{w32}
use mir.Val.{to_z, of_z}
use mir.ValLaws.{to_z-of_z}
use Rattle.ring.specs.Integers.{largest, all_between}
use Rattle.kindi.specs.Params.{modulus}
use Rattle.kindi.specs.Noise.{inside}
use Rattle.vectors.proofs.Joining.{rest_is}
use Rattle.noise.proofs.Tables.{take_same}
use Rattle.noise.proofs.Bounds.{quarter_fits}
use Rattle.noise.proofs.Streams.{streams_split}
use Rattle.noise.proofs.sums.sizes.Goals as goal

pub accumulate-requires : goal.accumulate-requires
accumulate-requires c =
    let pre = c.requires in
    let n = c.args.p.n in
    let X = c.args.streams.now in
    let e = c.secrets-secrets.ensures.0 in (
      record {
        well = pre.well;
        value_long = pre.value_long;
        coins_long = pre.coins_long;
        secrets_long = simp length-take (omega (arith, e, pre.streams_long));
        stream_long = rest_is c.secrets-secrets.result _ X (omega (arith, e, pre.streams_long));
      },
      simp length-take (omega (arith, pre.well.short)),
      simp length-take (omega (arith, pre.well.short)),
      take_same n 512 (pos 0) pre.well.short,
    )

pub returns : goal.returns
unfolding inside
returns c =
    let a = c.args in
    let long : length c.accumulate.new.acc ≡ a.p.n = c.accumulate.auto.acc ∙ simp length-take (omega (arith, c.requires.well.short)) in
    let all = c.accumulate.ensures ∙ streams_split a.p a.b.now a.coins.now a.streams.now c.secrets-secrets.ensures.0 in
    let end : ℤ = pos (modulus a.p / 4) in
    let quarter_is : to_z w32 (of_z w32 c.quarter-end.result) ≡ end =
    to_z-of_z w32 c.quarter-end.result (record { sfits = c.quarter-end.type_inv }) ∙ c.quarter-end.ensures in
    let low : to_z w32 (of_z w32 (pos 0 -ℤ end)) ≡ neg_ℤ end =
    to_z-of_z w32 (pos 0 -ℤ end) (quarter_fits a.p c.requires.well) ∙ +ℤ_idl (neg_ℤ end) in (
      c.all_between-clear.ensures ∙ rw (quarter_is, low) (ap (all_between (neg_ℤ end) end) (take_at c.accumulate.new.acc _ a.p.n long ∙ all)),
      c.largest-largest.ensures ∙ ap largest (take_at c.accumulate.new.acc _ a.p.n long ∙ all),
    )

-- `noise::factors::small` meets its contract.
-- Assumes nothing.
use mathlib.Core.Path.{◌≡◌, sym, ap, ◌∙◌}
use Prim.Native.Nat.{ℕ}
use native.Mathlib.Omega.{arith}
use lib.ListN.{length, length-take}
use lib.Seq.{take_at}
use Rattle.keccak.specs.Lists.{tabulate}
use Rattle.kindi.specs.Params.{width}
use Rattle.kindi.specs.Streams.{coefficient}
use Rattle.noise.proofs.Tables.{centred_table}
use Rattle.noise.proofs.Bounds.{small_values}
use Rattle.noise.proofs.factors.small.Goals as goal

pub centre-requires : goal.centre-requires
centre-requires c =
    let a = c.args in
    let pre = c.requires in
    let long : length c.values.new.dst ≡ a.p.n = c.values.auto.dst ∙ simp length-take (omega (arith, pre.well.short)) in
    let values_are : c.values.new.dst ≡ tabulate a.p.n (coefficient (width a.p) a.p.n a.bytes.now a.m) =
    c.values.ensures ∙ ap (λ (w : ℕ). tabulate a.p.n (coefficient w a.p.n a.bytes.now a.m)) c.width.ensures in (
      rw (take_at c.values.new.dst _ a.p.n long, values_are) (small_values a.p pre.well a.bytes.now a.m),
      omega (arith, pre.well.small_secrets),
      pre.room_is ∙ sym (ap length (take_at c.values.new.dst _ a.p.n long) ∙ long),
    )

pub returns : goal.returns
returns c =
    let a = c.args in
    let long : length c.values.new.dst ≡ a.p.n = c.values.auto.dst ∙ simp length-take (omega (arith, c.requires.well.short)) in
    c.centre.ensures
    ∙ centred_table a.p.p a.p.n (coefficient (width a.p) a.p.n a.bytes.now a.m)
    (take_at c.values.new.dst _ a.p.n long ∙ c.values.ensures
    ∙ ap (λ (w : ℕ). tabulate a.p.n (coefficient w a.p.n a.bytes.now a.m)) c.width.ensures)

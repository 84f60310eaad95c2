-- `signed::thirty_two` meets its contract: after j turns j terms are added.
-- Assumes nothing.
use mathlib.Core.Path.{◌≡◌, refl, ap, ◌∙◌}
use Prim.Native.Nat.{ℕ, ◌+◌}
use native.Mathlib.Omega.{arith}
use Rattle.ring.proofs.Sizes.{term_read}
use Rattle.ring.specs.Poly.{sum}
use Rattle.ring.specs.Terms.{terms}
use Rattle.signed.proofs.Summing.{term_fits, term_value}
use Rattle.signed.proofs.thirty_two.Goals as goal

pub loop-j-init : goal.loop-j-init
unfolding sum
loop-j-init c = refl

pub overflow_add-total : goal.overflow_add-total
overflow_add-total c =
    let a = c.args in
    term_fits c.requires (omega arith) c.loop-j.invariant (record { sfits = c.times-total.type_inv })
    (c.times-total.ensures ∙ term_read a.a.now a.b.now (a.i + c.loop-j.j) (record { sfits = omega arith }) (record { sfits = omega arith }))

pub loop-j-preserved : goal.loop-j-preserved
loop-j-preserved c =
    let a = c.args in
    term_value c.requires (omega arith) c.loop-j.invariant (record { sfits = c.times-total.type_inv })
    (c.times-total.ensures ∙ term_read a.a.now a.b.now (a.i + c.loop-j.j) (record { sfits = omega arith }) (record { sfits = omega arith }))

pub returns : goal.returns
returns c =
    let all : c.loop-j.j ≡ 32 = omega arith in
    c.loop-j.invariant ∙ ap (λ (m : ℕ). sum m (λ j. terms c.args.a.now c.args.b.now (c.args.i + j))) all

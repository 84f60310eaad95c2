-- `cipher_terms::first` meets its contract.
-- Assumes nothing.
use Rattle.vectors.proofs.Amounts.{reads, width_bound}
use Rattle.cipher_terms.proofs.Terms.{first_is}
use Rattle.kindi.specs.Params.{high_width}
use Rattle.vectors.specs.Vectors.{raised}
use Rattle.ring.specs.Coefficients.{added, centred_words}
use Rattle.bits.specs.Bits.{unpack}
use Prim.Native.Nat.{ℕ, ◌-◌}
use native.Mathlib.Omega.{arith}
use native.Mathlib.Nat.{one-mul}
use mathlib.Core.Path.{sym, ap, ap₂, ◌∙◌}
use Rattle.cipher_terms.proofs.first.Goals as goal

pub unpack-requires-2 : goal.unpack-requires-2
unpack-requires-2 c =
    let pre = c.requires in
    let p = c.args.p in (
      rw c.width.ensures (omega (arith, width_bound p pre.0)),
      rw c.width.ensures (reads p pre.0 1 (high_width p) (pre.3 ∙ sym (one-mul p.n)) pre.2),
    )

pub returns : goal.returns
returns c =
    let a = c.args in
    let pre = c.requires in
    let p = a.p in
    let bits = c.unpack.ensures ∙ ap (λ (m : ℕ). unpack 1 m a.coins.now) pre.4 in
    let high = c.unpack-2.ensures ∙ ap (λ (m : ℕ). unpack (c.width.result - 1) m a.high.now) pre.3 in
    c.centre.ensures
    ∙ ap (centred_words p.p) (c.add.ensures ∙ ap₂ added bits (c.raise.ensures ∙ ap (raised 1) high))
    ∙ first_is p a.coins.now a.high.now (c.width.result - 1) (ap (λ (m : ℕ). m - 1) c.width.ensures)

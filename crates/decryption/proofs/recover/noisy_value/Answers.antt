-- `decryption::recover::noisy_value` meets its contract.
-- Assumes nothing.
use Rattle.decryption.proofs.Value.{value_left, cipher_vector}
use Rattle.vectors.proofs.Amounts.{reads, reads_rest, within, length-le}
use Rattle.vectors.proofs.Reading.{rest_entries}
use Rattle.kindi.specs.Decrypt.{cipher_part}
use Rattle.bits.specs.Bits.{Below, unpack}
use Prim.Native.Nat.{ℕ, ◌+◌, ◌≤◌}
use native.Mathlib.Nat.{one-mul}
use native.Mathlib.Omega.{arith}
use mathlib.Core.Path.{sym, ap, ◌∙◌}
use Rattle.decryption.proofs.recover.noisy_value.Goals as goal

pub unpack-requires : goal.unpack-requires
unpack-requires c =
    let p = c.args.p in
    let pre = c.requires in
    let more : p.l ≤ p.l + 1 = omega arith in
    (pre.well.word, reads p pre.well p.l p.k pre.vector_long (omega (arith, pre.cipher_long, length-le p p.k more)))

pub slice_bounds-unpack-count : goal.slice_bounds-unpack-count
slice_bounds-unpack-count c =
    let p = c.args.p in
    let more : p.l ≤ p.l + 1 = omega arith in
    omega (arith, c.length_of-at.ensures.0, c.requires.cipher_long, length-le p p.k more)

pub slice_bounds-unpack-start : goal.slice_bounds-unpack-start
slice_bounds-unpack-start c =
    let p = c.args.p in
    let more : p.l ≤ p.l + 1 = omega arith in
    omega (arith, c.length_of-at.ensures.0, c.requires.cipher_long, length-le p p.k more)

pub unpack-requires-2 : goal.unpack-requires-2
unpack-requires-2 c =
    let p = c.args.p in
    let pre = c.requires in
    let W = pre.well in (
      W.word,
      reads_rest p W 1 p.k c.length_of-at.result c.args.ct.now (pre.value_long ∙ sym (one-mul p.n))
          (omega (
            arith,
            c.length_of-at.ensures.0,
            pre.cipher_long,
            within p {a = p.l} {m = p.l + 1} p.k (omega arith),
          )),
    )

pub returns : goal.returns
unfolding cipher_part
returns c =
    let a = c.args in
    let p = a.p in
    let pre = c.requires in
    let W = pre.well in
    let ct = a.ct.now in
    let bytes : Below 256 ct = λ x. (c.type_inv.ct x).fits in
    c.negate-2.ensures
    ∙ value_left p ct a.r.now c.unpack.new.dst c.unpack-2.new.dst
    c.negate.new.dst c.dot_add.new.acc
    (c.unpack.ensures ∙ ap (λ (m : ℕ). unpack p.k m ct) pre.vector_long ∙ cipher_vector p W ct bytes)
    (c.unpack-2.ensures ∙ rest_entries p W p.k p.l p.n c.length_of-at.result ct W.word bytes
    c.length_of-at.ensures.0 pre.value_long)
    c.negate.ensures c.dot_add.ensures

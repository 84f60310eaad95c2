-- `cipher_terms::decompress` meets its contract.
-- Assumes nothing.
use mathlib.Core.Path.{sym, ◌∙◌}
use Prim.Native.Nat.{◌+◌, ◌-◌, ◌≤◌}
use native.Mathlib.Nat.{one-mul}
use native.Mathlib.Omega.{arith}
use lib.ListN.{length}
use Rattle.bits.specs.Bits.{Below}
use Rattle.kindi.specs.Params.{length_of}
use Rattle.vectors.proofs.Amounts.{within, reads_rest}
use Rattle.cipher_terms.proofs.Terms.{decompressed_is}
use Rattle.cipher_terms.proofs.decompress.Goals as goal

pub slice_bounds-unpack-count : goal.slice_bounds-unpack-count
slice_bounds-unpack-count c =
    let stored_inside : c.length_of-from.result + length_of c.args.p 1 (c.args.p.k - c.args.p.t) ≤ length c.args.pk.now =
    let p = c.args.p in
    omega (arith, c.length_of-from.ensures.0, within p (p.k - p.t) c.requires.turn, c.requires.stored_there) in
    omega (arith, stored_inside)

pub slice_bounds-unpack-start : goal.slice_bounds-unpack-start
slice_bounds-unpack-start c =
    let stored_inside : c.length_of-from.result + length_of c.args.p 1 (c.args.p.k - c.args.p.t) ≤ length c.args.pk.now =
    let p = c.args.p in
    omega (arith, c.length_of-from.ensures.0, within p (p.k - p.t) c.requires.turn, c.requires.stored_there) in
    omega (arith, stored_inside)

pub unpack-requires : goal.unpack-requires
unpack-requires c =
    let stored_inside : c.length_of-from.result + length_of c.args.p 1 (c.args.p.k - c.args.p.t) ≤ length c.args.pk.now =
    let p = c.args.p in
    omega (arith, c.length_of-from.ensures.0, within p (p.k - p.t) c.requires.turn, c.requires.stored_there) in
    let p = c.args.p in
    let W = c.requires.well in
    (omega (arith, W.word), reads_rest p W 1 (p.k - p.t) _ c.args.pk.now (c.requires.list_long ∙ sym (one-mul p.n)) (stored_inside))

pub slice_bounds-small-count : goal.slice_bounds-small-count
slice_bounds-small-count c =
    let low_inside : c.length_of-at.result + length_of c.args.p 1 c.args.p.t ≤ length c.args.low.now =
    let p = c.args.p in
    omega (arith, c.length_of-at.ensures.0, within p p.t c.requires.turn, c.requires.low_there) in
    omega (arith, low_inside)

pub slice_bounds-small-start : goal.slice_bounds-small-start
slice_bounds-small-start c =
    let low_inside : c.length_of-at.result + length_of c.args.p 1 c.args.p.t ≤ length c.args.low.now =
    let p = c.args.p in
    omega (arith, c.length_of-at.ensures.0, within p p.t c.requires.turn, c.requires.low_there) in
    omega (arith, low_inside)

pub small-requires : goal.small-requires
small-requires c =
    let low_inside : c.length_of-at.result + length_of c.args.p 1 c.args.p.t ≤ length c.args.low.now =
    let p = c.args.p in
    omega (arith, c.length_of-at.ensures.0, within p p.t c.requires.turn, c.requires.low_there) in
    let p = c.args.p in
    let W = c.requires.well in
    (omega (arith, W.word, W.kept), reads_rest p W 1 p.t _ c.args.low.now (c.requires.low_long ∙ sym (one-mul p.n)) (low_inside))

pub returns : goal.returns
returns c =
    let a = c.args in
    let p = a.p in
    let pk : Below 256 a.pk.now = λ j. (c.type_inv.pk j).fits in
    let low : Below 256 a.low.now = λ j. (c.type_inv.low j).fits in
    decompressed_is p c.requires.well a.pk.now a.low.now pk low a.i c.length_of-from.result c.length_of-at.result
    c.constant.result c.power.result (length a.f.now) (length a.w.now) c.length_of-from.ensures.0
    c.length_of-at.ensures.0 c.constant.ensures c.power.ensures c.requires.list_long c.requires.low_long
    c.unpack.ensures c.raise.ensures c.small.ensures c.add.ensures c.add_constant.ensures

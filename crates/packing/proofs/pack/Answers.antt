-- `packing::pack` meets its contract: the bytes of the turns of eight, and then the rest.
-- Assumes nothing.
use mathlib.Core.List.{List}
use mathlib.Core.Path.{ap, ◌∙◌}
use Prim.Native.Nat.{ℕ}
use native.Mathlib.Omega.{arith}
use lib.ListN.{length-take, length-drop}
use Rattle.keccak.proofs.Parts.{patched-rest}
use Rattle.packing.proofs.Packing.{eights_none, eights_more, eights_all}
use Rattle.bits.specs.Bits.{pack, low_bits}
use Rattle.packing.proofs.pack.Goals as goal

pub loop-eight-init : goal.loop-eight-init
loop-eight-init c = eights_none c.args.w c.args.src.now c.args.dst.now c.requires.1

pub loop-eight-preserved : goal.loop-eight-preserved
loop-eight-preserved c =
    let h = c.loop-eight in
    let w = c.args.w in
    let split = c.in-Some.ensures.cases in
    let part = c.pack_eight in
    rw (split.1, patched-rest h.k part.new.dst h.dst)
    (eights_more h.invariant part.new.dst (omega (arith, split.2)) (part.auto.dst ∙ simp (length-take, length-drop) (omega arith))
    (part.ensures ∙ ap (λ (l : List ℕ). pack w (low_bits w l)) split.0))

pub returns : goal.returns
returns c =
    let h = c.loop-eight in
    patched-rest h.k c.pack_each.new.dst h.dst ∙ eights_all h.invariant c.pack_each.ensures

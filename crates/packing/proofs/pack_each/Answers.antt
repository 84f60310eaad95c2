-- `packing::pack_each` meets its contract: after each turn the string holds the bits of one coefficient more.
-- Assumes nothing.
use mathlib.Core.Path.{◌≡◌, ◌∙◌}
use Prim.Native.Nat.{◌-◌, ◌≤◌}
use native.Mathlib.Omega.{arith}
use lib.ListN.{length, take, drop, length-take, length-drop}
use Rattle.keccak.proofs.Parts.{patched-rest}
use Rattle.packing.proofs.Packing.{packed_room, packed_none, packed_more, packed_all}
use Rattle.packing.proofs.pack_each.Goals as goal

pub loop-c-init : goal.loop-c-init
loop-c-init c = packed_none c.args.w c.args.src.now c.args.dst.now c.requires.1

pub loop-c-preserved : goal.loop-c-preserved
loop-c-preserved c =
    let h = c.loop-c in
    let a = c.args in
    let bits = c.join_bits-bits in
    let room : h.k ≤ length h.dst = packed_room a.w a.src.now h.c-index h.k h.count h.pending h.dst h.invariant in
    let part = c.put in
    let same : length (take (length h.dst - h.k) (drop h.k h.dst)) ≡
    length h.dst - h.k = simp (length-take, length-drop) (omega arith) in
    let long : length part.new.dst ≡ length h.dst - h.k = part.auto.dst ∙ same in
    rw (patched-rest h.k part.new.dst h.dst)
    (packed_more a.w a.src.now h.c-index h.k h.count h.pending bits.result h.dst part.new.dst (omega arith)
    (omega arith) h.invariant
    bits.ensures.0 long (part.ensures ∙ rw same))

pub returns : goal.returns
returns c = packed_all _ _ _ _ _ _ _ (omega arith) c.loop-c.invariant

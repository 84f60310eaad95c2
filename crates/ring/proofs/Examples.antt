-- 01's examples that belong to this layer ("Loaves from the test bake"), by computation. Assumes nothing.
use mathlib.Core.Path.{◌≡◌, refl}
use mathlib.Core.Bool.{true, false}
use mathlib.Core.List.{[], ◌∷◌}
use Prim.Native.Nat.{◌^◌}
use lib.IntN.{pos, negsuc}
use Rattle.keccak.specs.Lists.{tabulate, value, digits}
use Rattle.bits.specs.Bits.{pack}
use Rattle.ring.specs.Integers.{residue, centred, all_between}
use Rattle.ring.specs.Poly.{sum, shifted, mul, of_nats, residues}

-- n = 4, k = 13: X^3 times X is 8191.
pub example_product : residues (2 ^ 13) 4 (mul 4 (of_nats (0 ∷ 0 ∷ 0 ∷ 1 ∷ [])) (of_nats (0 ∷ 1 ∷ 0 ∷ 0 ∷ []))) ≡ 8191 ∷ 0 ∷ 0 ∷ 0 ∷ []
unfolding residues residue mul shifted sum tabulate
example_product = refl

-- 14-bit 1, 2 pack as 01 80 00 and the low half of a fourth byte, 0.
pub example_pack : pack 14 (1 ∷ 2 ∷ []) ≡ 0x01 ∷ 0x80 ∷ 0x00 ∷ 0x00 ∷ []
unfolding pack value digits
example_pack = refl

-- p = 4: value 0 centres to −4, 7 to 3.
pub example_centre : (centred 4 0 ≡ negsuc 3) × (centred 4 7 ≡ pos 3)
example_centre = (refl, refl)

-- Of the interval from −4 to 4 neither end is inside.
pub example_ends : (all_between (negsuc 3) (pos 4) (negsuc 2 ∷ pos 3 ∷ []) ≡ true) × (all_between (negsuc 3) (pos 4) (negsuc 3 ∷ []) ≡ false)
    × (all_between (negsuc 3) (pos 4) (pos 4 ∷ []) ≡ false)
unfolding all_between
example_ends = (refl, refl, refl)

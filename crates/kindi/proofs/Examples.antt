-- 01's examples ("Loaves from the test bake"), all of them in one table, by computation. Assumes nothing.
use mathlib.Core.Path.{◌≡◌, refl}
use mathlib.Core.Bool.{true, false, not}
use mathlib.Core.List.{List, [], ◌∷◌, map}
use Prim.Native.Nat.{ℕ, ◌-◌, ◌^◌}
use lib.Count.{count_trailing_zeros}
use lib.IntN.{pos, negsuc, ◌+ℤ◌}
use lib.ListN.{replicate}
use Rattle.bits.specs.Bits.{pack}
use Rattle.ring.specs.Integers.{residue, centred}
use Rattle.ring.specs.Poly.{mul, of_nats, residues}
use Rattle.ring.proofs.Examples.{example_product, example_pack, example_centre}
use Rattle.kindi.specs.declared.Params.{Params}
use Rattle.kindi.specs.Params.{modulus, length_of, padded_length, set1, set2, set3, set4}
use Rattle.kindi.specs.Keys.{compress}
use Rattle.kindi.specs.Encrypt.{padded}
use Rattle.kindi.specs.Decrypt.{rounded_bit, all_below, errors_fit}
use Rattle.kindi.specs.Answers.{answered, refuse_if}
use Rattle.kindi.specs.Calls.{number}

-- An error e in 0 to q − 1 of set 1, with p added, modulo q.
abbrev pub raised : ℕ → List ℕ
raised e = residue (modulus set1) (pos e +ℤ pos set1.p) ∷ []

-- The number that the check of the errors in decryption gives where this is what remains.
abbrev pub checked : ℕ → ℕ
checked e = number (refuse_if (not (errors_fit set1.p (raised e))) 5 (answered (raised e)))

-- The table.
pub record Examples : Type 0 where
  -- k = 14: V of 0, 4095, 4096, 12287, 12288, 16383 give bits 0, 0, 1, 1, 0, 0
  pub rounding : map (rounded_bit (2 ^ 14)) (0 ∷ 4095 ∷ 4096 ∷ 12287 ∷ 12288 ∷ 16383 ∷ []) ≡ 0 ∷ 0 ∷ 1 ∷ 1 ∷ 0 ∷ 0 ∷ []
  -- n = 4, k = 13: X^3 times X is 8191
  pub product : residues (2 ^ 13) 4 (mul 4 (of_nats (0 ∷ 0 ∷ 0 ∷ 1 ∷ [])) (of_nats (0 ∷ 1 ∷ 0 ∷ 0 ∷ []))) ≡ 8191 ∷ 0 ∷ 0 ∷ 0 ∷ []
  -- 14-bit 1, 2 pack as 01 80 00 and the low half of a fourth byte, 0
  pub packing : pack 14 (1 ∷ 2 ∷ []) ≡ 0x01 ∷ 0x80 ∷ 0x00 ∷ 0x00 ∷ []
  -- p = 4: value 0 centres to −4, 7 to 3
  pub centring : (centred 4 0 ≡ negsuc 3) × (centred 4 7 ≡ pos 3)
  -- e of q − 4 and 3 pass, 4 and q − 5 give 5
  pub fitting : map (λ e. errors_fit set1.p (raised e)) ((modulus set1 - 4) ∷ 3 ∷ 4 ∷ (modulus set1 - 5) ∷ [])
      ≡ true ∷ true ∷ false ∷ false ∷ []
  pub refusing : map checked ((modulus set1 - 4) ∷ 3 ∷ 4 ∷ (modulus set1 - 5) ∷ []) ≡ 0 ∷ 0 ∷ 5 ∷ 5 ∷ []
  -- t = 2: 16383 stores as 4095
  pub storing : compress 2 16383 ≡ 4095
  -- an empty message fills as 01 and zeros, for any parameters, and so for the four sets
  pub filling : (P : Params) → padded P [] ≡ 0x01 ∷ replicate (padded_length P - 1) 0
  pub filling_sets : map (λ P. padded P []) (set1 ∷ set2 ∷ set3 ∷ set4 ∷ [])
      ≡ (0x01 ∷ replicate 383 0) ∷ (0x01 ∷ replicate 383 0) ∷ (0x01 ∷ replicate 575 0) ∷ (0x01 ∷ replicate 511 0) ∷ []

-- Its entries hold.
pub examples : Examples
unfolding residue all_below refuse_if number padded length_of count_trailing_zeros
examples = record {
  rounding = refl;
  product = example_product;
  packing = example_pack;
  centring = example_centre;
  fitting = refl;
  refusing = refl;
  storing = refl;
  filling = λ P. refl;
  filling_sets = refl;
}

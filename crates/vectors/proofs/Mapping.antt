-- Laws of loops that write a function of each entry in its place. Assumes nothing.
use mathlib.Core.Path.{◌≡◌, sym, ap, ◌∙◌}
use mathlib.Core.List.{List, ◌++◌, map}
use Prim.Native.Nat.{ℕ, ◌+◌, ◌*◌, ◌%◌, ◌^◌, ◌<◌}
use native.Mathlib.Omega.{arith}
use native.Mathlib.Nat.{mul_comm}
use lib.ListN.{length, get_or, set, take, drop}
use Rattle.std.proofs.lemmas.List.{get_or_default}
use Rattle.std.proofs.lemmas.List.Edits.{map_over_more}
use Rattle.bits.proofs.Filling.{tabulate_entries, tabulate_ext, map-tabulate}
use Rattle.ring.proofs.Modular.{residue-pos}
use Rattle.ring.specs.Poly.{residues}
use Rattle.vectors.specs.Vectors.{raised}

-- One entry more.
pub mapped_more : (f : ℕ → ℕ) (xs ys : List ℕ) (i : ℕ) → i < length xs → length ys ≡ length xs
    → ys ≡ map f (take i xs) ++ drop i xs → set ys i (f (get_or ys i 0)) ≡ map f (take (i + 1) xs) ++ drop (i + 1) xs
mapped_more f xs ys i h long e = map_over_more f xs ys i (get_or ys i 0) h e (get_or_default ys i 0 _ (omega arith))

-- What multiplies each entry of a list by 2^t.
pub raised_is : (t : ℕ) (xs : List ℕ) → map (λ c. c * 2 ^ t % 65536) xs ≡ raised t xs
unfolding residues
raised_is t xs =
    ap (map (λ c. c * 2 ^ t % 65536)) (sym (tabulate_entries xs 0)) ∙ map-tabulate (λ c. c * 2 ^ t % 65536) (length xs) (λ k. get_or xs k 0)
    ∙ tabulate_ext (length xs) _ _ (λ k _. ap (λ m. m % 65536) (mul_comm (get_or xs k 0) (2 ^ t)) ∙ sym (residue-pos 65536 _))

-- Laws of lists by their entries. Assumes nothing.
use mathlib.Core.Path.{◌≡◌, refl, ap}
use mathlib.Core.List.{List, ◌∷◌, ◌++◌}
use Prim.Native.Nat.{ℕ, zero, suc, ◌+◌, ◌<◌}
use native.Mathlib.Nat.{zero-add, suc-add, not-suc-le-zero, le_of_suc-le-suc}
use lib.ListN.{length, get_or}
use Rattle.keccak.specs.Lists.{tabulate}

-- Entry i of a tabulated list.
pub tabulate_at : {A : Type 0} (n : ℕ) (f : ℕ → A) (i : ℕ) (d : A) → i < n → get_or (tabulate n f) i d ≡ f i
unfolding tabulate
tabulate_at zero f i d h = absurd (not-suc-le-zero h)
tabulate_at (suc n) f zero d h = refl
tabulate_at (suc n) f (suc i) d h = tabulate_at n (λ k. f (suc k)) i d (le_of_suc-le-suc h)

pub length-tabulate : {A : Type 0} (n : ℕ) (f : ℕ → A) → length (tabulate n f) ≡ n
unfolding tabulate
length-tabulate zero f = refl
length-tabulate (suc n) f = ap suc (length-tabulate n (λ k. f (suc k)))

pub tabulate-add : {A : Type 0} (m n : ℕ) (f : ℕ → A) → tabulate (m + n) f ≡ tabulate m f ++ tabulate n (λ i. f (m + i))
unfolding tabulate
tabulate-add zero n f = simp zero-add
tabulate-add {A} (suc m) n f = simp suc-add (ap (λ (l : List A). f 0 ∷ l) (tabulate-add m n (λ i. f (suc i))))

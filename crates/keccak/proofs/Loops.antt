-- What loops carry from turn to turn, under names that their proofs share. Assumes nothing.
use mathlib.Core.Path.{◌≡◌, ap, ◌∙◌}
use mathlib.Core.List.{List}
use Prim.Native.Nat.{ℕ, ◌≤◌}
use native.Mathlib.Omega.{arith}
use lib.ListN.{length, take}
use lib.Seq.{take_all}

-- A loop of n turns whose value after i of them is `after i`.
pub record Carried {A : Type 0} (n : ℕ) (after : ℕ → A) (i : ℕ) (x : A) : Type 0 where
  pub within : i ≤ n
  pub is : x ≡ after i

-- After the last turn.
pub carried_all : {A : Type 0} {n i : ℕ} {after : ℕ → A} {x : A} → Carried n after i x → n ≤ i → x ≡ after n
carried_all {n = n} {i = i} {after = after} h last =
    let all : i ≡ n = omega (arith, h.within) in
    h.is ∙ ap after all

-- The same where each turn takes one more entry of a list.
pub carried_list : {A B : Type 0} (xs : List A) (f : List A → B) {i : ℕ} {x : B}
    → Carried (length xs) (λ k. f (take k xs)) i x → length xs ≤ i → x ≡ f xs
carried_list xs f {i = i} h last = h.is ∙ ap f (take_all i xs last)

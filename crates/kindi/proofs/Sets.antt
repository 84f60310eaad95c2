-- The four sets are well formed, by computation. Assumes nothing.
use mathlib.Core.Path.{◌≡◌, refl, sym, ◌∙◌}
use mathlib.Core.Bool.{Bool, true, false, cond}
use Prim.Native.Nat.{ℕ}
use lib.Dec.{eqb, T, eqb→eq}
use Rattle.kindi.specs.declared.Params.{Params}
use native.Mathlib.Omega.{arith}
use lib.Count.{count_trailing_zeros}
use Rattle.kindi.specs.Params.{WellFormed, length_of, Parameters, of_set, set1, set2, set3, set4}

pub well1 : WellFormed set1
unfolding length_of count_trailing_zeros
well1 = search arith

pub well2 : WellFormed set2
unfolding length_of count_trailing_zeros
well2 = search arith

pub well3 : WellFormed set3
unfolding length_of count_trailing_zeros
well3 = search arith

pub well4 : WellFormed set4
unfolding length_of count_trailing_zeros
well4 = search arith

-- One of two that are well formed is.
chosen : (b : Bool) {P Q : Params} → WellFormed P → WellFormed Q → WellFormed (cond b P Q)
chosen true p q = p
chosen false p q = q

-- So the parameters of every set are well formed.
pub of_set_well : (s : ℕ) → WellFormed (of_set s)
unfolding of_set
of_set_well s = chosen (eqb s 1) well1 (chosen (eqb s 2) well2 (chosen (eqb s 3) well3 well4))

passed : (s m : ℕ) (P Q : Params) → (s ≡ m → ⊥) → cond (eqb s m) P Q ≡ Q
passed s m P Q h = failed (eqb s m) (λ t. h (eqb→eq s m t))
  where
    failed : (b : Bool) → (T b → ⊥) → cond b P Q ≡ Q
    failed true other = absurd (other tt)
    failed false _ = refl

-- So what `parameters` gives is what it promises.
pub first_set : {s : ℕ} → s ≡ 1 → Parameters s set1
unfolding of_set
first_set e = rw e record { are = refl; well = well1 }

pub second_set : {s : ℕ} → s ≡ 2 → Parameters s set2
unfolding of_set
second_set e = rw e record { are = refl; well = well2 }

pub third_set : {s : ℕ} → s ≡ 3 → Parameters s set3
unfolding of_set
third_set e = rw e record { are = refl; well = well3 }

pub last_set : {s : ℕ} → (s ≡ 1 → ⊥) → (s ≡ 2 → ⊥) → (s ≡ 3 → ⊥) → Parameters s set4
unfolding of_set
last_set {s} a b c = record {
  are = sym
      (passed s 1 set1 (cond (eqb s 2) set2 (cond (eqb s 3) set3 set4)) a ∙ passed s 2 set2 (cond (eqb s 3) set3 set4) b
      ∙ passed s 3 set3 set4 c);
  well = well4;
}

pub ruleset sets = (first_set, second_set, third_set, last_set)

-- The outcome of a call that refuses lengths and widths that do not fit. Rests on nothing.
use Rattle.std.specs.Prelude.{◌≡◌, ℕ}

-- Where they fit the call returns 0 and leaves what is wanted; else it returns 1 and leaves what was there.
pub record Outcome {A : Type 0} (Fit : Type 0) (status : ℕ) (exit entry wanted : A) : Type 0 where
  pub done : Fit → (status ≡ 0) × (exit ≡ wanted)
  pub refused : (Fit → ⊥) → (status ≡ 1) × (exit ≡ entry)

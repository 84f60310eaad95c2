-- Equivalence, for the theorems. Rests on nothing.

-- Each of the two holds where the other does.
pub record Iff (A B : Type 0) : Type 0 where
  pub forth : A → B
  pub back : B → A

-- Lists by their entries and parts, and numbers as their digits in base 2^w, low digit first. Rests on nothing.
use Rattle.std.specs.Prelude.{List, [], ◌∷◌, ◌++◌, ℕ, zero, suc, ◌+◌, ◌*◌, ◌/◌, ◌%◌, ◌^◌, take, drop}

-- The list of f 0 to f (n − 1).
unfoldable pub tabulate : {A : Type 0} → ℕ → (ℕ → A) → List A
tabulate zero f = []
tabulate (suc n) f = f zero ∷ tabulate n (λ i. f (suc i))

-- The lists that f gives to the entries, one after another.
unfoldable pub concat_map : {A : Type 0} → (A → List ℕ) → List A → List ℕ
concat_map f [] = []
concat_map f (x ∷ xs) = f x ++ concat_map f xs

-- The list xs with ys in the place of its k entries from a on: a part of a slice that was lent and has come back.
abbrev pub patched : {A : Type 0} → ℕ → ℕ → List A → List A → List A
patched a k ys xs = take a xs ++ (ys ++ drop k (drop a xs))

-- The number with these digits in base 2^w, the first one lowest.
unfoldable pub value : ℕ → List ℕ → ℕ
value w [] = 0
value w (d ∷ ds) = d + 2 ^ w * value w ds

-- The n low digits of v in base 2^w, the lowest first.
unfoldable pub digits : ℕ → ℕ → ℕ → List ℕ
digits w zero v = []
digits w (suc n) v = v % 2 ^ w ∷ digits w n (v / 2 ^ w)

-- The terms of products as the code adds them: what its smaller functions leave. Rests on Poly.
use Rattle.std.specs.Prelude.{◌≡◌, List, ◌++◌, ℕ, ◌+◌, ◌-◌, ◌*◌, ◌%◌, ◌^◌, ◌≤◌, ◌<◌, ℤ, neg_ℤ, ◌*ℤ◌, length, get_or}
use Rattle.keccak.specs.Lists.{tabulate}
use Rattle.ring.specs.Integers.{largest}
use Rattle.ring.specs.Poly.{of_nats, of_ints, residues}

-- The term a·b added to acc.
abbrev pub add_term : ℕ → ℕ → ℕ → ℕ
add_term acc a b = (acc + a * b) % 65536

-- Entry k of acc with four terms added, the first of them with the entry of row that stands last.
unfoldable pub add_four : List ℕ → List ℕ → ℕ → ℕ → ℕ → ℕ → ℕ → ℕ
add_four acc row a b c d k =
    add_term (add_term (add_term (add_term (get_or acc k 0) a (get_or row (k + 3) 0)) b (get_or row (k + 2) 0)) c (get_or row (k + 1) 0)) d
    (get_or row k 0)

-- −b and then b, modulo 2^16.
abbrev pub doubled : List ℕ → List ℕ
doubled b = residues 65536 (length b) (λ k. neg_ℤ (of_nats b k)) ++ b

-- The coefficients of b from the last one down, and those of −b.
abbrev pub backwards : List ℤ → List ℤ
backwards b = tabulate (length b) (λ i. of_ints b (length b - 1 - i))

abbrev pub negated_backwards : List ℤ → List ℤ
negated_backwards b = tabulate (length b) (λ i. neg_ℤ (of_ints b (length b - 1 - i)))

-- The terms of a sum of products: entry i of a times entry i of b.
abbrev pub terms : List ℤ → List ℤ → ℕ → ℤ
terms a b i = of_ints a i *ℤ of_ints b i

-- m entries from place i on, in lists so small that no sum of terms leaves 32 bits.
pub record Terms (a b : List ℤ) (i m : ℕ) : Type 0 where
  pub same : length b ≡ length a
  pub there : i + m ≤ length a
  pub small : length a * (largest a * largest b) < 2 ^ 31

-- What the permutation gives is made of bytes. Assumes nothing.
use mathlib.Core.List.{List, [], ◌∷◌, ◌++◌}
use Prim.Native.Nat.{ℕ, zero, suc, ◌/◌, ◌%◌, ◌^◌, ◌<◌}
use native.Mathlib.Nat.{mod-lt}
use lib.ListN.{get_or, take, drop, replicate}
use lib.Pow.{pow_pos}
use Rattle.keccak.specs.Lists.{concat_map, digits}
use Rattle.keccak.specs.Strings.{row_string, from_state, permute, xor_into}
use Rattle.hash.specs.Shake.{absorb_blocks, permutes}

-- Every entry of the list is a byte.
abbrev pub Bytes : List ℕ → Type 0
Bytes l = (i : ℕ) → get_or l i 0 < 2 ^ 8

bytes_none : Bytes []
bytes_none i = pow_pos 8

bytes_cons : (x : ℕ) (l : List ℕ) → x < 2 ^ 8 → Bytes l → Bytes (x ∷ l)
bytes_cons x l h t zero = h
bytes_cons x l h t (suc i) = t i

bytes_append : (l k : List ℕ) → Bytes l → Bytes k → Bytes (l ++ k)
bytes_append [] k p q = q
bytes_append (x ∷ l) k p q = bytes_cons x (l ++ k) (p 0) (bytes_append l k (λ i. p (suc i)) q)

bytes_digits : (n v : ℕ) → Bytes (digits 8 n v)
unfolding digits
bytes_digits zero v = bytes_none
bytes_digits (suc n) v = bytes_cons (v % 2 ^ 8) (digits 8 n (v / 2 ^ 8)) (mod-lt v (pow_pos 8)) (bytes_digits n (v / 2 ^ 8))

bytes_concat_map : {A : Type 0} (f : A → List ℕ) → ((x : A) → Bytes (f x)) → (l : List A) → Bytes (concat_map f l)
unfolding concat_map
bytes_concat_map f each [] = bytes_none
bytes_concat_map f each (x ∷ l) = bytes_append (f x) (concat_map f l) (each x) (bytes_concat_map f each l)

bytes_permute : (s : List ℕ) → Bytes (permute s)
unfolding permute from_state row_string
bytes_permute s = bytes_concat_map row_string (λ p. bytes_concat_map (digits 8 8) (bytes_digits 8) p) _

pub bytes_zeros : (n : ℕ) → Bytes (replicate n 0)
bytes_zeros zero = bytes_none
bytes_zeros (suc n) = bytes_cons 0 (replicate n 0) (pow_pos 8) (bytes_zeros n)

pub bytes_absorb_blocks : (r n : ℕ) (s p : List ℕ) → Bytes s → Bytes (absorb_blocks r n s p)
unfolding absorb_blocks
bytes_absorb_blocks r zero s p h = h
bytes_absorb_blocks r (suc n) s p h = bytes_absorb_blocks r n (permute (xor_into s (take r p))) (drop r p) (bytes_permute _)

pub bytes_permutes : (n : ℕ) (s : List ℕ) → Bytes s → Bytes (permutes n s)
unfolding permutes
bytes_permutes zero s h = h
bytes_permutes (suc n) s h = bytes_permute (permutes n s)

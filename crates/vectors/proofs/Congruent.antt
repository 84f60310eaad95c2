-- Laws of vectors modulo 2^16: their entries decide them; and of what they are modulo q. Assumes nothing.
use mathlib.Core.Path.{◌≡◌, refl, sym, ap, ◌∙◌}
use mathlib.Core.List.{List}
use Prim.Native.Nat.{ℕ, ◌*◌, ◌^◌, ◌≤◌, ◌<◌, suc-le-suc, zero-le}
use lib.ListN.{length}
use Rattle.bits.specs.Bits.{Below, low_bits}
use Rattle.ring.specs.Integers.{Cong}
use Rattle.ring.specs.Poly.{Poly, of_nats, parts, residues}
use Rattle.ring.proofs.Residues.{residues_low, residues_cong, residues_of_list, length-residues}
use Rattle.kindi.specs.Keys.{joined}
use Rattle.kindi.proofs.Strings.{length-joined}
use Rattle.vectors.specs.Vectors.{vector}
use Rattle.vectors.proofs.Reading.{flat}
use Rattle.vectors.proofs.Joining.{joined_same, low_bits-joined}

-- A vector of m polynomials of n coefficients has m·n entries.
pub length-vector : (m n : ℕ) (f : ℕ → Poly) → length (vector m n f) ≡ m * n
unfolding vector
length-vector m n f = length-joined m n _ (λ i _. length-residues 65536 n (f i))

-- Congruent polynomials have one vector.
pub vector_near : (m n : ℕ) (f g : ℕ → Poly) → ((i x : ℕ) → i < m → x < n → Cong 65536 (f i x) (g i x)) → vector m n f ≡ vector m n g
unfolding vector
vector_near m n f g near = joined_same m _ _ (λ i h. residues_cong (suc-le-suc zero-le) n (f i) (g i) (λ x l. near i x h l))

-- A list of words is the vector of its parts.
vector-parts : (m n : ℕ) (xs : List ℕ) → length xs ≡ m * n → Below 65536 xs → xs ≡ vector m n (parts n xs)
vector-parts m n xs long below =
    sym (residues_of_list 65536 xs below) ∙ ap (λ (k : ℕ). residues 65536 k (of_nats xs)) long ∙ flat m n (parts n xs) (of_nats xs) (λ i x _ _. refl)

-- So it is that of the polynomials that its parts are congruent to.
pub vector_of : (m n : ℕ) (xs : List ℕ) (f : ℕ → Poly) → length xs ≡ m * n → Below 65536 xs
    → ((i x : ℕ) → i < m → x < n → Cong 65536 (parts n xs i x) (f i x)) → xs ≡ vector m n f
vector_of m n xs f long below near = vector-parts m n xs long below ∙ vector_near m n (parts n xs) f near

-- Its low k bits are the coefficients modulo 2^k.
pub vector_low : (k m n : ℕ) (f : ℕ → Poly) → k ≤ 16 → low_bits k (vector m n f) ≡ joined m (λ j. residues (2 ^ k) n (f j))
unfolding vector
vector_low k m n f h = low_bits-joined k m _ ∙ joined_same m _ _ (λ j _. residues_low k 16 n (f j) h)

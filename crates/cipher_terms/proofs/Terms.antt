-- Laws of the polynomials that the code puts together from several strings: s and P. Assumes nothing.
use mathlib.Core.Path.{◌≡◌, refl, sym, ap, ap₂, ◌∙◌}
use mathlib.Core.Bool.{Bool, true, false, cond}
use mathlib.Core.List.{List, [], ◌∷◌, ◌++◌, append_assoc, append-nil}
use Prim.Native.Nat.{ℕ, zero, suc, ◌+◌, ◌-◌, ◌*◌, ◌^◌, ◌<◌, suc-le-suc, zero-le}
use native.Mathlib.Nat.{not-suc-le-zero, add-zero, mul-one, mul-zero, mod-lt}
use native.Mathlib.Omega.{arith}
use lib.Dec.{eqb, eqb-suc-zero}
use lib.IntN.{ℤ, pos, ◌+ℤ◌, ◌*ℤ◌}
use lib.ListN.{length, get_or, take, drop, length-set}
use Rattle.keccak.proofs.Entries.{tabulate_at}
use Rattle.keccak.proofs.Parts.{take_rest}
use Rattle.bits.specs.Bits.{Below, unpack}
use Rattle.ring.specs.Integers.{Cong, centred}
use Rattle.ring.specs.Poly.{Poly, plus, unit, of_nats, residues}
use Rattle.ring.specs.Coefficients.{added, centred_words}
use Rattle.bits.proofs.Digits.{length-unpack}
use Rattle.ring.proofs.Integers.{ring}
use Rattle.ring.proofs.Modular.{cong_add, cong_sub, cong_refl, cong_of_eq, cong_trans, cong_mod}
use Rattle.ring.proofs.Residues.{residues_cong, length-residues, residues_below, residues_of_list, of_nats-residues}
use Rattle.kindi.specs.declared.Params.{Params}
use Rattle.kindi.specs.Params.{WellFormed, half, high_width, length_of}
use Rattle.kindi.specs.Streams.{coefficient, small_in, first_in, low_in, ephemeral_by}
use Rattle.kindi.specs.Keys.{joined, stored}
use Rattle.kindi.specs.Encrypt.{decompressed_by}
use Rattle.vectors.specs.Vectors.{vector, raised, with_constant}
use Rattle.vectors.proofs.Reading.{coefficient_first, unpack-from}

-- An entry of a list that has been multiplied.
raised_cong : (n t : ℕ) (xs : List ℕ) (x : ℕ) → length xs ≡ n → x < n → Cong 65536 (of_nats (raised t xs) x) (pos (2 ^ t * get_or xs x 0))
raised_cong n t xs x long h = of_nats-residues (suc-le-suc zero-le) (length xs) (λ k. pos (2 ^ t * get_or xs k 0)) (rw long h)

-- An entry of a sum.
added_cong : (n : ℕ) (a b : List ℕ) (x : ℕ) → length a ≡ n → x < n → Cong 65536 (of_nats (added a b) x) (of_nats a x +ℤ of_nats b x)
added_cong n a b x long h = of_nats-residues (suc-le-suc zero-le) (length a) (plus (of_nats a) (of_nats b)) (rw long h)

-- An entry of centred values.
centred_cong : (n c : ℕ) (xs : List ℕ) (x : ℕ) → length xs ≡ n → x < n → Cong 65536 (of_nats (centred_words c xs) x) (centred c (get_or xs x 0))
centred_cong n c xs x long h = of_nats-residues (suc-le-suc zero-le) (length xs) (λ k. centred c (get_or xs k 0)) (rw long h)

-- s_1: bits of the coins plus twice the high part, less p.
pub first_is : (P : Params) (coins high : List ℕ) (w : ℕ) → w ≡ high_width P
    → centred_words P.p (added (unpack 1 P.n coins) (raised 1 (unpack w P.n high))) ≡ residues 65536 P.n (first_in P coins high)
first_is P coins high w e =
    let n : ℕ = P.n in
    let a : List ℕ = unpack 1 n coins in
    let b : List ℕ = unpack w n high in
    let sum : List ℕ = added a (raised 1 b) in
    let la : length a ≡ n = length-unpack 1 n coins in
    let lb : length b ≡ n = length-unpack w n high in
    let long : length sum ≡ n = length-residues 65536 (length a) (plus (of_nats a) (of_nats (raised 1 b))) ∙ la in
    ap (λ (m : ℕ). residues 65536 m (λ k. centred P.p (get_or sum k 0))) long
    ∙ residues_cong (suc-le-suc zero-le) n _ _ (λ x h.
    cong_sub
    (cong_trans (added_cong n a (raised 1 b) x la h)
    (cong_trans (cong_add (cong_refl (of_nats a x)) (raised_cong n 1 b x lb h))
    (cong_of_eq (ap₂ (λ (i j : ℕ). pos (i + 2 * j)) (sym (coefficient_first 1 n n coins x h))
    (sym (coefficient_first w n n high x h) ∙ ap (λ (m : ℕ). coefficient m n high 0 x) e)))))
    (cong_refl (pos P.p)))

-- The first coefficient with c added.
constant_cong : (N c : ℕ) (xs : List ℕ) (y : ℕ) → length xs ≡ N → y < N
    → Cong 65536 (of_nats (with_constant c xs) y) (of_nats xs y +ℤ pos c *ℤ unit y)
unfolding unit
constant_cong N c [] y long h = absurd (not-suc-le-zero (rw (sym long) at h))
constant_cong N c (v ∷ xs) zero long h =
    cong_trans (cong_mod 65536 (v + c)) (cong_of_eq (ap (λ (k : ℕ). pos (v + k)) (sym (mul-one c))))
constant_cong N c (v ∷ xs) (suc y) long h =
    rw (eqb-suc-zero y) (cong_of_eq (ap pos (sym (ap (λ (k : ℕ). get_or xs y 0 + k) (mul-zero c) ∙ add-zero (get_or xs y 0)))))

constant_below : (c : ℕ) (xs : List ℕ) → Below 65536 xs → Below 65536 (with_constant c xs)
constant_below c [] b i = b i
constant_below c (v ∷ xs) b zero = mod-lt (v + c) (suc-le-suc zero-le)
constant_below c (v ∷ xs) b (suc i) = b (suc i)

-- The constant of P_i: that of the first polynomial alone is g.
constant_is : (first : Bool) (g x : ℕ) → pos (cond first g 0) *ℤ unit x ≡ cond first (pos g *ℤ unit x) (pos 0)
constant_is true g x = refl
constant_is false g x = *ℤ-zero_l (unit x)
  where
    *ℤ-zero_l : (z : ℤ) → pos 0 *ℤ z ≡ pos 0
    *ℤ-zero_l z = simp ring

-- An entry of polynomial i that is read from the rest of a string.
rest_at : (P : Params) → WellFormed P → (w i from : ℕ) (bytes : List ℕ) → Below 256 bytes → from ≡ length_of P i w → (x : ℕ) → x < P.n
    → get_or (unpack w P.n (take (length bytes - from) (drop from bytes))) x 0 ≡ coefficient w P.n bytes i x
rest_at P W w i from bytes below e x h =
    ap (λ (xs : List ℕ). get_or (unpack w P.n xs) x 0) (take_rest from bytes ∙ ap (λ (m : ℕ). drop m bytes) e)
    ∙ ap (λ (xs : List ℕ). get_or xs x 0) (unpack-from P W w P.n i bytes below) ∙ tabulate_at P.n (coefficient w P.n bytes i) x 0 h

-- P_i: 2^t times stored polynomial i, plus w_i, and g at the constant of the first.
decompress_is : (P : Params) → WellFormed P → (pk low : List ℕ) → Below 256 pk → Below 256 low → (i from at c : ℕ)
    → from ≡ length_of P i (P.k - P.t) → at ≡ length_of P i P.t → c ≡ cond (eqb i 0) (half P) 0
    → with_constant c (added (raised P.t (unpack (P.k - P.t) P.n (take (length pk - from) (drop from pk))))
    (centred_words (2 ^ (P.t - 1)) (unpack P.t P.n (take (length low - at) (drop at low)))))
    ≡ residues 65536 P.n (decompressed_by P pk (low_in P low) i)
unfolding stored
decompress_is P W pk low bp bl i from at c ef ea ec =
    let n : ℕ = P.n in
    let d : ℕ = P.k - P.t in
    let m : ℕ = 2 ^ (P.t - 1) in
    let a : List ℕ = unpack d n (take (length pk - from) (drop from pk)) in
    let b : List ℕ = unpack P.t n (take (length low - at) (drop at low)) in
    let la : length a ≡ n = length-unpack d n _ in
    let lb : length b ≡ n = length-unpack P.t n _ in
    let lr : length (raised P.t a) ≡ n = length-residues 65536 (length a) (λ k. pos (2 ^ P.t * get_or a k 0)) ∙ la in
    let sum : Poly = plus (of_nats (raised P.t a)) (of_nats (centred_words m b)) in
    let xs : List ℕ = added (raised P.t a) (centred_words m b) in
    let lx : length xs ≡ n = length-residues 65536 (length (raised P.t a)) sum ∙ lr in
    let ys : List ℕ = with_constant c xs in
    let ly : length ys ≡ n = length-set xs 0 _ ∙ lx in
    let below : Below 65536 ys = constant_below c xs (residues_below (suc-le-suc zero-le) (length (raised P.t a)) sum) in
    sym (residues_of_list 65536 ys below) ∙ ap (λ (k : ℕ). residues 65536 k (of_nats ys)) ly
    ∙ residues_cong (suc-le-suc zero-le) n (of_nats ys) (decompressed_by P pk (low_in P low) i) (λ x h.
    cong_trans (constant_cong n c xs x lx h)
    (cong_add
    (cong_trans (added_cong n (raised P.t a) (centred_words m b) x lr h)
    (cong_add
    (cong_trans (raised_cong n P.t a x la h) (cong_of_eq (ap (λ (k : ℕ). pos (2 ^ P.t * k)) (rest_at P W d i from pk bp ef x h))))
    (cong_trans (centred_cong n m b x lb h) (cong_of_eq (ap (centred m) (rest_at P W P.t i at low bl ea x h))))))
    (cong_of_eq (ap (λ (k : ℕ). pos k *ℤ unit x) ec ∙ constant_is (eqb i 0) (half P) x))))

-- So the steps of `decompress` leave it.
pub decompressed_is : (P : Params) → WellFormed P → (pk low : List ℕ) → Below 256 pk → Below 256 low → (i from at c d N M : ℕ)
    → from ≡ length_of P i (P.k - P.t) → at ≡ length_of P i P.t → c ≡ cond (eqb i 0) (half P) 0 → d ≡ 2 ^ (P.t - 1) → N ≡ P.n → M ≡ P.n
    → {f r w s ys : List ℕ} → f ≡ unpack (P.k - P.t) N (take (length pk - from) (drop from pk)) → r ≡ raised P.t f
    → w ≡ centred_words d (unpack P.t M (take (length low - at) (drop at low))) → s ≡ added r w → ys ≡ with_constant c s
    → ys ≡ residues 65536 P.n (decompressed_by P pk (low_in P low) i)
decompressed_is P W pk low bp bl i from at c d N M ef ea ec ed eN eM isF isR isW isS isY =
    isY ∙ ap (with_constant c) (isS ∙ ap₂ added
    (isR ∙ ap (raised P.t) (isF ∙ ap (λ (m : ℕ). unpack (P.k - P.t) m (take (length pk - from) (drop from pk))) eN))
    (isW ∙ ap₂ (λ (e m : ℕ). centred_words e (unpack P.t m (take (length low - at) (drop at low)))) ed eM))
    ∙ decompress_is P W pk low bp bl i from at c ef ea ec

-- ---- s

-- Lists joined are the first of them and the others.
joined_first : (m : ℕ) (g : ℕ → List ℕ) → joined (suc m) g ≡ g 0 ++ joined m (λ i. g (suc i))
unfolding joined
joined_first zero g = sym (append-nil (g 0))
joined_first (suc m) g =
    ap (λ (l : List ℕ). l ++ g (suc m)) (joined_first m g) ∙ append_assoc (g 0) (joined m (λ i. g (suc i))) (g (suc m))

-- s is s_1, then s_2 to s_ℓ.
pub ephemeral_first : (P : Params) (coins high rest : List ℕ) (l : ℕ) → 0 < l
    → residues 65536 P.n (first_in P coins high) ++ vector (l - 1) P.n (small_in P rest) ≡ vector l P.n (ephemeral_by P coins high rest)
unfolding vector ephemeral_by
ephemeral_first P coins high rest zero h = absurd (not-suc-le-zero h)
ephemeral_first P coins high rest (suc l) h =
    let less : suc l - 1 ≡ l = omega arith in
    rw less (sym (joined_first l (λ i. residues 65536 P.n (ephemeral_by P coins high rest i))))

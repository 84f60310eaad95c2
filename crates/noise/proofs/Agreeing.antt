-- Laws of the stored polynomials beside those of b: bytes that are the same, b without its low bits, and the comparison of one
-- polynomial after another. Assumes nothing.
use mathlib.Core.Path.{◌≡◌, refl, sym, ap, ap₂, ◌∙◌}
use mathlib.Core.Bool.{Bool, true, false, ◌&&◌}
use mathlib.Core.List.{List, [], ◌∷◌, ◌++◌, map}
use Prim.Native.Nat.{ℕ, ◌+◌, ◌-◌, ◌*◌, ◌^◌, ◌<◌}
use native.Mathlib.Nat.{suc_inj, suc-mul, zero-mul, div-one, one-mul, add-sub_cancel_left}
use native.Mathlib.Numerals.{add-one}
use native.Mathlib.Omega.{arith}
use lib.Dec.{eqb}
use lib.ListN.{length, get_or, take, drop, length-take, length-map, take-append-drop}
use lib.Pow.{pow_pos}
use lib.Seq.{take-take, take-add, take_all, length-take-le}
use Rattle.keccak.specs.Lists.{tabulate}
use Rattle.keccak.proofs.Entries.{length-tabulate}
use Rattle.bits.specs.Bits.{Below, pack, low_bits}
use Rattle.bits.proofs.Filling.{tabulate_ext, tabulate_entries}
use Rattle.ring.specs.Poly.{residues}
use Rattle.ring.proofs.Residues.{residues_below, length-residues}
use Rattle.kindi.specs.declared.Params.{Params}
use Rattle.kindi.specs.Params.{WellFormed, modulus, length_of, stored_length, public_length, secret_length}
use Rattle.kindi.specs.Streams.{coefficient}
use Rattle.kindi.specs.Keys.{compress, joined, public, public_key, public_part, matrix_seed, secret_seed}
use Rattle.kindi.specs.Answers.{same, agrees}
use Rattle.kindi.proofs.Chains.{same_refl}
use Rattle.kindi.proofs.Strings.{length-joined, length-pack, length_string, whole_bytes, tabulate_below, coefficient_below, coefficient_packed}
use Rattle.vectors.proofs.Amounts.{fills, length_none, length-add, length_times, Placed, placed}
use Rattle.vectors.proofs.Joining.{joined_same, pack-joined}
use Rattle.keys.specs.Stored.{stored_of}
use Rattle.keys.proofs.Made.{low_same, compressed_below, map-joined}
use Rattle.noise.specs.Terms.{dropped_bits}
use Rattle.noise.specs.Rooms.{value_of, KeyRoom, AgreementRoom}

and-true : (a : Bool) → a && true ≡ a
and-true true = refl
and-true false = refl

and_assoc : (a b c : Bool) → (a && b) && c ≡ a && (b && c)
and_assoc true b c = refl
and_assoc false b c = refl

-- Two strings are the same where their parts are.
same_parts : (xs ys xs' ys' : List ℕ) → length xs ≡ length ys → same (xs ++ xs') (ys ++ ys') ≡ same xs ys && same xs' ys'
unfolding same
same_parts [] [] xs' ys' e = refl
same_parts [] (y ∷ ys) xs' ys' e = absurd (omega arith)
same_parts (x ∷ xs) [] xs' ys' e = absurd (omega arith)
same_parts (x ∷ xs) (y ∷ ys) xs' ys' e =
    ap (λ (t : Bool). eqb x y && t) (same_parts xs ys xs' ys' (suc_inj e)) ∙ sym (and_assoc (eqb x y) (same xs ys) (same xs' ys'))

-- The same bytes after them change nothing.
same_after : (xs ys zs : List ℕ) → length xs ≡ length ys → same (xs ++ zs) (ys ++ zs) ≡ same xs ys
same_after xs ys zs e = same_parts xs ys zs zs e ∙ ap (λ (t : Bool). same xs ys && t) (same_refl zs) ∙ and-true (same xs ys)

-- No bits dropped.
compress_none : (xs : List ℕ) → map (compress 0) xs ≡ xs
compress_none [] = refl
compress_none (x ∷ xs) = ap₂ ◌∷◌ (div-one x) (compress_none xs)

-- ---- b without its low bits

-- The steps from b to what is stored of a polynomial.
pub dropped_is : (P : Params) → WellFormed P → (b : List ℕ) (i : ℕ) {vs cs bytes : List ℕ}
    → vs ≡ tabulate P.n (coefficient P.k P.n b i) → cs ≡ map (compress P.t) vs
    → bytes ≡ pack (P.k - P.t) (low_bits (P.k - P.t) cs) → bytes ≡ dropped_bits P b i
unfolding dropped_bits
dropped_is P W b i ev ec eb =
    let w : ℕ = P.k - P.t in
    let all : List ℕ = tabulate P.n (coefficient P.k P.n b i) in
    let below : Below (2 ^ P.k) all
    = tabulate_below (2 ^ P.k) P.n _ (pow_pos P.k) (λ x _. coefficient_below P.k P.n b i x) in
    eb ∙ ap (λ (ys : List ℕ). pack w (low_bits w ys)) (ec ∙ ap (map (compress P.t)) ev)
    ∙ ap (pack w) (low_same w _ (compressed_below P.k P.t all (omega (arith, W.kept)) below))

-- They are the bytes of a polynomial.
length_dropped : (P : Params) → WellFormed P → (b : List ℕ) (i : ℕ) → length (dropped_bits P b i) ≡ length_of P 1 (P.k - P.t)
unfolding dropped_bits
length_dropped P W b i =
    let cs : List ℕ = tabulate P.n (coefficient P.k P.n b i) in
    length-pack (P.k - P.t) (map (compress P.t) cs)
    ∙ sym (fills P W (P.k - P.t) (length-map cs (compress P.t) ∙ length-tabulate P.n _) refl)

-- Of polynomials that are packed: each without its low bits.
dropped_packed : (P : Params) (f : ℕ → List ℕ) → ((i : ℕ) → i < P.l → length (f i) ≡ P.n) → ((i : ℕ) → i < P.l → Below (2 ^ P.k) (f i))
    → (i : ℕ) → i < P.l → dropped_bits P (pack P.k (joined P.l f)) i ≡ pack (P.k - P.t) (map (compress P.t) (f i))
unfolding dropped_bits
dropped_packed P f long below i h =
    ap (λ (ys : List ℕ). pack (P.k - P.t) (map (compress P.t) ys))
    (tabulate_ext P.n _ _ (λ x l. coefficient_packed P.k P.n P.l f i x long below h l)
    ∙ ap (λ (m : ℕ). tabulate m (λ x. get_or (f i) x 0)) (sym (long i h)) ∙ tabulate_entries (f i) 0)

-- b in full, where no bits are dropped.
pub value_made : (P : Params) (sk : List ℕ) {μ γ ys : List ℕ} → μ ≡ matrix_seed P (public_part P sk) → γ ≡ secret_seed P sk
    → ys ≡ stored_of P 0 μ γ → ys ≡ value_of P sk
unfolding value_of stored_of
value_made P sk eμ eγ ey =
    let f : ℕ → List ℕ = λ i. residues (modulus P) P.n (public P (matrix_seed P (public_part P sk)) (secret_seed P sk) i) in
    let none : P.k - 0 ≡ P.k = omega arith in
    ey ∙ ap₂ (stored_of P 0) eμ eγ ∙ ap₂ pack none (sym (map-joined (compress 0) P.l f) ∙ compress_none (joined P.l f))

-- b in full has ℓ polynomials.
pub length-value : (P : Params) → WellFormed P → (sk : List ℕ) → length (value_of P sk) ≡ length_of P P.l P.k
unfolding value_of
length-value P W sk =
    length_string P W P.l P.k (λ i. residues (modulus P) P.n (public P (matrix_seed P (public_part P sk)) (secret_seed P sk) i))
    (λ i _. length-residues (modulus P) P.n (public P (matrix_seed P (public_part P sk)) (secret_seed P sk) i))

-- ---- a key beside its b

-- A key that stores b without its low bits agrees: its μ is that of b.
stored-agrees : (P : Params) → WellFormed P → (sk : List ℕ) {a : ℕ} → length sk ≡ secret_length P → a ≡ stored_length P
    → same (take a sk) (joined P.l (dropped_bits P (value_of P sk))) ≡ agrees P sk
unfolding agrees public_key value_of matrix_seed public_part
stored-agrees P W sk {a} long ea =
    let n : ℕ = stored_length P in
    let w : ℕ = P.k - P.t in
    let pk : List ℕ = take (public_length P) sk in
    let μ : List ℕ = drop n pk in
    let f : ℕ → List ℕ = λ i. residues (modulus P) P.n (public P μ (secret_seed P sk) i) in
    let g : ℕ → List ℕ = λ i. map (compress P.t) (f i) in
    let sized : (i : ℕ) → length (f i) ≡ P.n = λ i. length-residues (modulus P) P.n (public P μ (secret_seed P sk) i) in
    let below : (i : ℕ) → Below (2 ^ P.k) (f i) = λ i. residues_below (pow_pos P.k) P.n (public P μ (secret_seed P sk) i) in
    let sized' : (i : ℕ) → i < P.l → length (g i) ≡ P.n = λ i _. length-map (f i) (compress P.t) ∙ sized i in
    let Z : List ℕ = pack w (joined P.l g) in
    let whole : w * P.n ≡ 8 * length_of P 1 w = ap (λ (m : ℕ). w * m) (sym (one-mul P.n)) ∙ whole_bytes P W 1 w in
    let packed : joined P.l (dropped_bits P (pack P.k (joined P.l f))) ≡ Z
    = joined_same P.l _ _ (dropped_packed P f (λ i _. sized i) (λ i _. below i))
    ∙ sym (pack-joined w P.n (length_of P 1 w) P.l g whole sized'
    (λ i _. compressed_below P.k P.t (f i) (omega (arith, W.kept)) (below i))) in
    let first : take a sk ≡ take n pk = ap (λ (m : ℕ). take m sk) ea ∙ sym (take-take n (public_length P) sk (omega arith)) in
    let size : length (take n pk) ≡ n = simp length-take (omega (arith, long)) in
    ap₂ same first packed ∙ sym (same_after (take n pk) Z μ (size ∙ sym (length_string P W P.l w g sized')))
    ∙ ap (λ (l : List ℕ). same l (Z ++ μ)) (take-append-drop n pk)

-- The stored polynomials may be compared with those of b.
pub agreement_room : {P : Params} {sk b : List ℕ} {a v m : ℕ} → KeyRoom P sk b → a ≡ stored_length P → v ≡ P.n → m ≡ length_of P 1 (P.k - P.t)
    → AgreementRoom P b (take a sk) v m
agreement_room {P} {sk} room ea ev em = record {
  well = room.well;
  value_long = ap length room.value_is ∙ length-value P room.well sk;
  stored_long = simp length-take (omega (arith, room.secret_long));
  values_are = ev;
  bytes_are = em;
}

-- The comparison tells whether the key agrees.
pub agrees_is : {P : Params} {sk b : List ℕ} {a : ℕ} {r : Bool} → KeyRoom P sk b → a ≡ stored_length P
    → r ≡ same (take a sk) (joined P.l (dropped_bits P b)) → r ≡ agrees P sk
agrees_is {P} {sk} {a = a} room ea er =
    er ∙ ap (λ (b : List ℕ). same (take a sk) (joined P.l (dropped_bits P b))) room.value_is
    ∙ stored-agrees P room.well sk room.secret_long ea

-- ---- the comparison, one polynomial after another

-- The first i are compared; the next lies at `at`.
pub record Compared (P : Params) (b stored : List ℕ) (at i : ℕ) (all : Bool) : Type 0 where
  pub place_is : at ≡ length_of P i (P.k - P.t)
  pub so_far : all ≡ same (take at stored) (joined i (dropped_bits P b))

pub compared_none : (P : Params) (b stored : List ℕ) (m : ℕ) → Compared P b stored (0 * m) 0 true
unfolding joined same
compared_none P b stored m = rw (zero-mul m) record { place_is = sym (length_none P (P.k - P.t)); so_far = refl }

module _ {P : Params} {b stored : List ℕ} {v m i : ℕ} {all : Bool} (room : AgreementRoom P b stored v m)
    (done : Compared P b stored (i * m) i all) where
  -- The place of the next one.
  abbrev pub at : ℕ
  at = i * m

  -- The next polynomial lies within the stored ones.
  pub next_placed : i < P.l → Placed at m (length stored)
  next_placed h =
      placed P room.well i P.l (P.k - P.t) done.place_is room.bytes_are room.stored_long h
      (omega (arith, room.well.few)) (omega (arith, room.well.word))

  -- It is compared.
  pub compared_more : {r : Bool} → i < P.l → r ≡ same (take (at + m - at) (drop at stored)) (dropped_bits P b i)
      → Compared P b stored ((i + 1) * m) (i + 1) (all && r)
  unfolding joined
  compared_more {r} h er =
      let w : ℕ = P.k - P.t in
      let W = room.well in
      let next : (i + 1) * m ≡ at + m = rw (add-one i) (suc-mul i m) in
      let each : (j : ℕ) → length (dropped_bits P b j) ≡ length_of P 1 w = length_dropped P W b in
      let sizes : length (take at stored) ≡ length (joined i (dropped_bits P b))
      = length-take-le at stored (omega (arith, (next_placed h).fits))
      ∙ sym (length-joined i (length_of P 1 w) (dropped_bits P b) (λ j _. each j) ∙ length_times P i w ∙ sym done.place_is) in
      record {
        place_is = next ∙ omega (arith, done.place_is, room.bytes_are, length-add P i 1 w);
        so_far = rw (next, add-one i, take-add at m stored)
            (ap₂ ◌&&◌ done.so_far (er ∙ ap (λ (k : ℕ). same (take k (drop at stored)) (dropped_bits P b i)) (add-sub_cancel_left at m))
            ∙ sym (same_parts (take at stored) (joined i (dropped_bits P b)) (take m (drop at stored)) (dropped_bits P b i) sizes));
      }

  -- All are.
  pub compared_all : i ≡ P.l → all ≡ same stored (joined P.l (dropped_bits P b))
  compared_all last =
      let end : at ≡ length stored = done.place_is ∙ ap (λ (j : ℕ). length_of P j (P.k - P.t)) last ∙ sym room.stored_long in
      done.so_far ∙ ap₂ (λ (l : List ℕ) (j : ℕ). same l (joined j (dropped_bits P b))) (take_all at stored (omega (arith, end))) last

-- Laws of keygen: what the stream of γ gives, b, its polynomials without their low t bits, and both keys. Assumes nothing.
use mathlib.Core.Path.{◌≡◌, refl, sym, ap, ap₂, ◌∙◌}
use mathlib.Core.Bool.{false}
use mathlib.Core.List.{List, [], ◌∷◌, ◌++◌, map, map-append, append_assoc}
use Prim.Native.Nat.{ℕ, zero, suc, ◌+◌, ◌-◌, ◌*◌, ◌^◌, ◌≤◌, ◌<◌, min}
use native.Mathlib.Nat.{mod-eq_of_lt}
use native.Mathlib.Omega.{arith}
use lib.ListN.{length, take, drop, length-take}
use lib.Seq.{take_at, take-take}
use lib.Pow.{pow_pos, shr_lt}
use Rattle.keccak.specs.Lists.{patched}
use Rattle.keccak.proofs.Parts.{patched-rest, take_rest}
use Rattle.hash.specs.Shake.{shake}
use Rattle.hash.proofs.Laws.{length-shake}
use Rattle.bits.specs.Bits.{Below, pack, unpack, low_bits}
use Rattle.bits.proofs.Digits.{low_bits_below}
use Rattle.ring.specs.Integers.{Cong, centred}
use Rattle.ring.specs.Poly.{Poly, parts, residues}
use Rattle.ring.specs.Coefficients.{centred_words}
use Rattle.ring.proofs.Modular.{cong_trans, cong_of_eq}
use Rattle.kindi.specs.declared.Params.{Params}
use Rattle.kindi.specs.Params.{WellFormed, modulus, width, length_of, secrets_length}
use Rattle.kindi.specs.Streams.{matrix, small_in, key_secret}
use Rattle.kindi.specs.Keys.{compress, joined, public_by, public, public_key, secret_key}
use Rattle.vectors.specs.Vectors.{vector}
use Rattle.vectors.proofs.Amounts.{length-add}
use Rattle.vectors.proofs.Reading.{small-vector, vector_cong, coefficient-drop}
use Rattle.vectors.proofs.Joining.{then-rest, then_next}
use Rattle.vectors.proofs.Congruent.{vector_near, vector_low}
use Rattle.matrix.specs.Product.{with_matrix}
use Rattle.matrix.proofs.Replaced.{product_of}
use Rattle.keys.specs.Stored.{stored_of}

-- ---- the stream of γ

-- It is there once the beginning of the work area is written.
pub stream_there : (r : ℕ) (work γ : List ℕ) {s m : ℕ} {stream : List ℕ} → s ≡ m → s ≤ length work
    → stream ≡ shake r γ (length (take s work)) → take s (stream ++ drop s work) ≡ shake r γ m
stream_there r work γ {s} {m} {stream} e h es =
    let long : length (take s work) ≡ s = simp length-take (omega arith) in
    take_at stream (drop s work) s (ap length es ∙ length-shake r γ (length (take s work)) ∙ long) ∙ es ∙ ap (shake r γ) (long ∙ e)

-- Its first bytes stay where only bytes behind them are written.
pub stream_kept : (work : List ℕ) (at s k : ℕ) (ys : List ℕ) {stream : List ℕ} → take s work ≡ stream → at ≤ length (take s work)
    → take at (patched at k ys work) ≡ take at stream
stream_kept work at s k ys e h =
    let room : at ≤ min s (length work) = rw (length-take s work) at h in
    let first : length (take at work) ≡ at = simp length-take (omega arith) in
    take_at (take at work) (ys ++ drop k (drop at work)) at first ∙ sym (take-take at s work (omega arith)) ∙ ap (take at) e

-- r' lies behind r in it.
pub errors_inside : (P : Params) (stream : List ℕ) {at w : ℕ} → length stream ≡ secrets_length P → w ≡ width P
    → at ≡ length_of P P.l w → at + length_of P P.l w ≤ length stream
errors_inside P stream {at} {w} long ew ea =
    let twice : 2 * P.l ≡ P.l + P.l = omega arith in
    let both : length stream ≡ length_of P P.l w + length_of P P.l w
    = long ∙ ap₂ (length_of P) twice (sym ew) ∙ length-add P P.l P.l w in
    omega (arith, both, ea)

-- What small leaves of it is r, and behind the bytes of r it is r'.
pub secret_read : (P : Params) (stream : List ℕ) {w N : ℕ} {r : List ℕ} → w ≡ width P → N ≡ P.l * P.n
    → r ≡ centred_words P.p (unpack w N stream) → r ≡ vector P.l P.n (small_in P stream)
secret_read P stream ew en e =
    e ∙ ap₂ (λ (v m : ℕ). centred_words P.p (unpack v m stream)) ew en ∙ small-vector P.l P.n (width P) P.p stream

pub errors_read : (P : Params) → WellFormed P → (stream : List ℕ) → Below 256 stream → (at : ℕ) {w N : ℕ} {sums : List ℕ}
    → w ≡ width P → N ≡ P.l * P.n → at ≡ length_of P P.l w
    → sums ≡ centred_words P.p (unpack w N (take (length stream - at) (drop at stream)))
    → sums ≡ vector P.l P.n (λ i. small_in P stream (P.l + i))
errors_read P W stream below at {w} {N} ew en ea e =
    let from : take (length stream - at) (drop at stream) ≡ drop (length_of P P.l (width P)) stream
    = take_rest at stream ∙ ap (λ (m : ℕ). drop m stream) (ea ∙ ap (length_of P P.l) ew) in
    secret_read P (drop (length_of P P.l (width P)) stream) ew en
    (e ∙ ap (λ (bytes : List ℕ). centred_words P.p (unpack w N bytes)) from)
    ∙ vector_near P.l P.n _ _ (λ i x _ _. cong_of_eq (ap (centred P.p) (coefficient-drop P W (width P) P.l i x stream below)))

-- ---- b

-- The products of A with r, added to r', are b.
pub public_made : (P : Params) (μ γ stream : List ℕ) {r errors sums : List ℕ} → stream ≡ shake P.rate γ (secrets_length P)
    → r ≡ vector P.l P.n (small_in P stream) → errors ≡ vector P.l P.n (λ i. small_in P stream (P.l + i))
    → sums ≡ with_matrix P μ false r errors → sums ≡ vector P.l P.n (public P μ γ)
unfolding public key_secret
public_made P μ γ stream {r} {errors} {sums} es er ee e =
    let held : (xs : List ℕ) (F : ℕ → Poly) → xs ≡ vector P.l P.n F → (i x : ℕ) → i < P.l → x < P.n →
    Cong 65536 (parts P.n xs i x) (F i x)
    = λ xs F eq i x h l. cong_trans (cong_of_eq (ap (λ (ys : List ℕ). parts P.n ys i x) eq)) (vector_cong P.l P.n F i x h l) in
    let S : ℕ → Poly = small_in P stream in
    e ∙ product_of P μ false r errors S (λ i. S (P.l + i)) (held r S er) (held errors (λ i. S (P.l + i)) ee)
    ∙ ap (λ (bytes : List ℕ). vector P.l P.n (public_by P (matrix P μ) (small_in P bytes))) es

-- Values below 2^w are their low w bits.
pub low_same : (w : ℕ) (xs : List ℕ) → Below (2 ^ w) xs → low_bits w xs ≡ xs
unfolding low_bits
low_same w [] below = refl
low_same w (x ∷ xs) below = ap₂ ◌∷◌ (mod-eq_of_lt (below zero)) (low_same w xs (λ i. below (suc i)))

-- Values of k bits have k − t bits once compressed.
pub compressed_below : (k t : ℕ) (xs : List ℕ) → t ≤ k → Below (2 ^ k) xs → Below (2 ^ (k - t)) (map (compress t) xs)
compressed_below k t [] h below i = pow_pos (k - t)
compressed_below k t (x ∷ xs) h below zero =
    let whole : k - t + t ≡ k = omega arith in
    shr_lt (k - t) t (rw whole (below zero))
compressed_below k t (x ∷ xs) h below (suc i) = compressed_below k t xs h (λ j. below (suc j)) i

-- So packing keeps them whole.
pub packed : (k t : ℕ) → t ≤ k → (sums : List ℕ) {low high bytes : List ℕ} → low ≡ low_bits k sums → high ≡ map (compress t) low
    → bytes ≡ pack (k - t) (low_bits (k - t) high) → bytes ≡ pack (k - t) (map (compress t) (low_bits k sums))
packed k t h sums el eh eb =
    let kept = eh ∙ ap (map (compress t)) el in
    eb ∙ ap (λ (ys : List ℕ). pack (k - t) (low_bits (k - t) ys)) kept
    ∙ ap (pack (k - t)) (low_same (k - t) _ (compressed_below k t (low_bits k sums) h (low_bits_below k sums)))

-- A function of each entry goes into lists that are joined.
pub map-joined : (f : ℕ → ℕ) (m : ℕ) (g : ℕ → List ℕ) → map f (joined m g) ≡ joined m (λ i. map f (g i))
unfolding joined
map-joined f zero g = refl
map-joined f (suc m) g = map-append f (joined m g) (g m) ∙ ap (λ (l : List ℕ). l ++ map f (g m)) (map-joined f m g)

-- Of b modulo 2^16 this is what a key stores.
pub stored_made : (P : Params) → WellFormed P → (t : ℕ) (μ γ : List ℕ) {sums bytes : List ℕ}
    → sums ≡ vector P.l P.n (public P μ γ) → bytes ≡ pack (P.k - t) (map (compress t) (low_bits P.k sums))
    → bytes ≡ stored_of P t μ γ
unfolding stored_of
stored_made P W t μ γ es eb =
    eb ∙ ap (pack (P.k - t))
    (ap (λ (xs : List ℕ). map (compress t) (low_bits P.k xs)) es
    ∙ ap (map (compress t)) (vector_low P.k P.l P.n (public P μ γ) W.word)
    ∙ map-joined (compress t) P.l (λ i. residues (modulus P) P.n (public P μ γ i)))

-- ---- keys

-- Both keys, written part by part.
pub key_made : (P : Params) (μ γ pk : List ℕ) {n : ℕ} {stored seed : List ℕ} → length stored ≡ n → stored ≡ stored_of P P.t μ γ
    → seed ≡ μ → patched n (length (stored ++ drop n pk) - n) seed (stored ++ drop n pk) ≡ public_key P μ γ
unfolding stored_of public_key
key_made P μ γ pk {n} {stored} {seed} long es eμ = then-rest n pk stored seed long ∙ ap₂ ◌++◌ es eμ

pub secret_made : (P : Params) (μ γ z sk : List ℕ) (a k : ℕ) {pk g y : List ℕ} → length pk ≡ a → length g ≡ k → a + k ≤ length sk
    → pk ≡ public_key P μ γ → g ≡ γ → y ≡ z
    → patched (a + k) (length (patched a (a + k - a) g (pk ++ drop a sk)) - (a + k)) y (patched a (a + k - a) g (pk ++ drop a sk))
    ≡ secret_key P μ γ z
unfolding secret_key
secret_made P μ γ z sk a k {pk} {g} {y} l m h e eg ez =
    patched-rest (a + k) y (patched a (a + k - a) g (pk ++ drop a sk))
    ∙ ap (λ (t : List ℕ). t ++ y) (then_next a k sk pk g l m h) ∙ append_assoc pk g y ∙ ap₂ ◌++◌ e (ap₂ ◌++◌ eg ez)

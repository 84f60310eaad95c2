-- Laws of the streams of γ and of the coins in the work area: the masked message in its place, and the noise of what stands
-- there. Assumes nothing.
use mathlib.Core.Path.{◌≡◌, refl, sym, ap, ap₂, ◌∙◌}
use mathlib.Core.List.{List, ◌++◌}
use Prim.Native.Nat.{ℕ, ◌+◌, ◌-◌, ◌%◌, ◌^◌, ◌≤◌, ◌<◌}
use native.Mathlib.Nat.{add_assoc, add-sub_cancel_left}
use native.Mathlib.Omega.{arith}
use lib.IntN.{ℤ, pos, neg_ℤ, ◌+ℤ◌, ◌-ℤ◌, +ℤ_idl, +ℤ_comm, +ℤ_assoc}
use lib.ListN.{length, take, drop, replicate, length-take, length-append}
use lib.Pow.{pow_pos}
use lib.Seq.{take_all, length-take-le, take_at, take-add, drop_at, drop-drop}
use Rattle.keccak.specs.Lists.{tabulate, patched}
use Rattle.hash.specs.Shake.{shake}
use Rattle.keccak.proofs.Entries.{length-tabulate}
use Rattle.keccak.proofs.Parts.{length-patched, take-patched, take_rest}
use Rattle.hash.proofs.Laws.{length-shake}
use Rattle.bits.proofs.Filling.{tabulate_ext, tabulate_constant}
use Rattle.ring.specs.Integers.{residue}
use Rattle.ring.specs.Poly.{Poly, plus, minus, dot, of_ints, residues}
use Rattle.ring.proofs.Ring.{dot_ext}
use Rattle.ring.proofs.Residues.{residues_at, residues_below, length-residues}
use Rattle.kindi.specs.declared.Params.{Params}
use Rattle.kindi.specs.Params.{WellFormed, modulus, stored_length, secret_length, low_length, padded_length, high_length}
use Rattle.kindi.specs.Params.{secrets_length, coins_stream_length}
use Rattle.kindi.specs.Streams.{coefficient, small_in, low_in, low_part, key_secret, coins_stream, ephemeral_by, ephemeral}
use Rattle.kindi.specs.Keys.{public, public_part, matrix_seed, secret_seed}
use Rattle.kindi.specs.Encrypt.{masked, error}
use Rattle.kindi.specs.Noise.{key_noise, noise, noises}
use Rattle.kindi.proofs.Padding.{length-masked}
use Rattle.kindi.proofs.Strings.{coefficient_packed}
use Rattle.cipher_terms.proofs.Masks.{low_there, length_stream, stream_below}
use Rattle.vectors.proofs.Amounts.{part_length}
use Rattle.noise.specs.Rooms.{value_of, Kept}
use Rattle.noise.specs.Terms.{key_noise_in, noise_in, noises_from}
use Rattle.noise.proofs.Products.{of_ints_table}

-- The stream of the coins with the masked message in the mask's place.
abbrev pub masked_stream : Params → List ℕ → List ℕ → List ℕ
masked_stream P coins message = patched (low_length P) (padded_length P) (masked P coins message) (coins_stream P coins)

-- It is as long as the stream.
pub length-masked_stream : (P : Params) (coins message : List ℕ) → length (masked_stream P coins message) ≡ coins_stream_length P
length-masked_stream P coins message =
    length-patched (low_length P) (padded_length P) (masked P coins message) (coins_stream P coins) (length-masked P coins message)
    (omega (arith, length_stream P coins))
    ∙ length_stream P coins

-- ---- the parts of a secret key

-- μ and γ, as the checker writes these parts.
pub matrix_seed_part : (P : Params) (sk : List ℕ) {a : ℕ} → length sk ≡ secret_length P → a ≡ stored_length P
    → take (a + P.seed - a) (drop a sk) ≡ matrix_seed P (public_part P sk)
unfolding matrix_seed public_part
matrix_seed_part P sk {a} long e =
    let n : ℕ = stored_length P in
    let size : length (take n sk) ≡ n = simp length-take (omega (arith, long)) in
    ap (λ (m : ℕ). take m (drop a sk)) (add-sub_cancel_left a P.seed) ∙ ap (λ (m : ℕ). take P.seed (drop m sk)) e
    ∙ sym (ap (drop n) (take-add n P.seed sk) ∙ drop_at (take n sk) (take P.seed (drop n sk)) n size)

pub secret_seed_part : (P : Params) (sk : List ℕ) {a : ℕ} → a ≡ stored_length P
    → take (a + P.seed + P.seed - (a + P.seed)) (drop (a + P.seed) sk) ≡ secret_seed P sk
unfolding secret_seed
secret_seed_part P sk {a} e =
    ap (λ (m : ℕ). take m (drop (a + P.seed) sk)) (add-sub_cancel_left (a + P.seed) P.seed) ∙
    ap (λ (m : ℕ). take P.seed (drop (m + P.seed) sk)) e

-- ---- the noise of the streams

-- The mask's place has the mask's length.
pub mask_length : (P : Params) (S : List ℕ) (a e : ℕ) → a ≡ low_length P → e ≡ low_length P + padded_length P
    → length S ≡ coins_stream_length P → length (take (e - a) (drop a S)) ≡ padded_length P
mask_length P S a e ea ee long =
    rw (ee, ea) (part_length (low_length P) (padded_length P) S (omega (arith, long)))

-- X of the streams is X of the keys.
key-noise_is : (P : Params) → WellFormed P → (sk coins b Z : List ℕ) (i x : ℕ) → b ≡ value_of P sk → i < P.l → x < P.n
    → low_in P Z i x ≡ low_in P (coins_stream P coins) i x
    → key_noise_in P Z (shake P.rate (secret_seed P sk) (secrets_length P)) b i x ≡
    key_noise P (matrix_seed P (public_part P sk)) (secret_seed P sk) coins i x
unfolding key_noise_in key_noise key_secret low_part value_of
key-noise_is P W sk coins b Z i x eb hi hx low =
    let μ : List ℕ = matrix_seed P (public_part P sk) in
    let γ : List ℕ = secret_seed P sk in
    let f : ℕ → List ℕ = λ j. residues (modulus P) P.n (public P μ γ j) in
    let value : coefficient P.k P.n b i x ≡ residue (modulus P) (public P μ γ i x)
    = ap (λ (l : List ℕ). coefficient P.k P.n l i x) eb
    ∙ coefficient_packed P.k P.n P.l f i x (λ j _. length-residues (modulus P) P.n (public P μ γ j))
    (λ j _. residues_below (pow_pos P.k) P.n (public P μ γ j)) hi hx
    ∙ residues_at (modulus P) P.n (public P μ γ i) hx in
    ap₂ (λ (w : ℤ) (v : ℕ). (w +ℤ small_in P (shake P.rate γ (secrets_length P)) (P.l + i) x) -ℤ pos (v % 2 ^ P.t)) low value

-- The streams give the noise.
pub noises_are : (P : Params) → WellFormed P → (sk b coins message : List ℕ) → b ≡ value_of P sk
    → noises_from P b coins (shake P.rate (secret_seed P sk) (secrets_length P) ++ masked_stream P coins message)
    ≡ noises P (matrix_seed P (public_part P sk)) (secret_seed P sk) coins message
unfolding noises_from noise_in noises noise error ephemeral key_secret
noises_are P W sk b coins message eb =
    let μ : List ℕ = matrix_seed P (public_part P sk) in
    let γ : List ℕ = secret_seed P sk in
    let n : ℕ = P.n in
    let L : ℕ = low_length P in
    let K : ℕ = padded_length P in
    let H : ℕ = high_length P in
    let G : List ℕ = shake P.rate γ (secrets_length P) in
    let S : List ℕ = coins_stream P coins in
    let U : List ℕ = masked P coins message in
    let Z : List ℕ = masked_stream P coins message in
    let R : List ℕ = drop K (drop L S) in
    let E : ℕ → Poly = ephemeral_by P coins (drop (L + K) S) (drop (L + (K + H)) S) in
    let lg : length G ≡ secrets_length P = length-shake P.rate γ (secrets_length P) in
    let ls : length S ≡ coins_stream_length P = length_stream P coins in
    let lw : length (take L S) ≡ L = simp length-take (omega arith) in
    let tail : drop L Z ≡ U ++ R = drop_at (take L S) (U ++ R) L lw in
    let mid : take K (drop L Z) ≡ U = ap (take K) tail ∙ take_at U R K (length-masked P coins message) in
    let high : drop (L + K) Z ≡ drop (L + K) S
    = sym (drop-drop K L Z) ∙ ap (drop K) tail ∙ drop_at U R K (length-masked P coins message) ∙ drop-drop K L S in
    let rest : drop (L + K + H) Z ≡ drop (L + (K + H)) S
    = sym (drop-drop H (L + K) Z) ∙ ap (drop H) high ∙ drop-drop H (L + K) S ∙ ap (λ (i : ℕ). drop i S) (add_assoc L K H) in
    let same : (i x : ℕ) → i < P.l → x < n → low_in P Z i x ≡ low_in P S i x
    = low_there P W S (U ++ R) (stream_below P coins) (omega arith) in
    let of : List ℕ → List ℕ → List ℕ → List ℕ → List ℕ → List ℤ
    = λ g z e h s. tabulate n
    (minus (plus (dot P.l n (key_noise_in P z g b) (ephemeral_by P coins h s)) (small_in P e P.l))
    (dot P.l n (small_in P e) (small_in P g))) in
    ap₂ (λ (g z : List ℕ). of g z (take K (drop L z)) (drop (L + K) z) (drop (L + K + H) z)) (take_at G Z (secrets_length P) lg)
    (drop_at G Z (secrets_length P) lg)
    ∙ ap₂ (λ (e h : List ℕ). of G Z e h (drop (L + K + H) Z)) mid high ∙ ap (of G Z U (drop (L + K) S)) rest
    ∙ tabulate_ext n _ _ (λ x h.
    ap (λ (v : ℤ). (v +ℤ small_in P U P.l x) -ℤ dot P.l n (small_in P U) (small_in P G) x)
    (dot_ext P.l n (key_noise_in P Z G b) (key_noise P μ γ coins) E E
    (λ i y p q. key-noise_is P W sk coins b Z i y eb p q (same i y p q)) (λ i y _ _. refl) h))

-- ---- the order of the code

-- The last error less the sum of e_j·r_j, plus the sum of X_i·s_i.
pub noise_made : (n : ℕ) (D M : Poly) (e : Poly) {zeros errors acc : List ℤ} (x : ℕ) → x < n → zeros ≡ replicate n (pos 0)
    → errors ≡ tabulate n (plus (of_ints zeros) M) → acc ≡ tabulate n (minus (of_ints (tabulate n e)) (of_ints errors))
    → of_ints acc x +ℤ D x ≡ (D x +ℤ e x) -ℤ M x
noise_made n D M e {zeros} {errors} {acc} x h ez ee ea =
    let at : (xs : List ℤ) (f : Poly) → xs ≡ tabulate n f → of_ints xs x ≡ f x = λ xs f q. ap (λ (xs : List ℤ). of_ints xs x) q ∙
    of_ints_table n f x h in
    let none : of_ints zeros x ≡ pos 0 = at zeros (λ _. pos 0) (ez ∙ sym (tabulate_constant n (pos 0))) in
    let sum : of_ints errors x ≡ M x = at errors (plus (of_ints zeros) M) ee ∙ ap (λ (z : ℤ). z +ℤ M x) none ∙ +ℤ_idl (M x) in
    let rest : of_ints acc x ≡ e x -ℤ M x = at acc (minus (of_ints (tabulate n e)) (of_ints errors)) ea ∙
    ap₂ ◌-ℤ◌ (of_ints_table n e x h) sum in
    ap (λ (z : ℤ). z +ℤ D x) rest ∙ +ℤ_comm (e x -ℤ M x) (D x) ∙ sym (+ℤ_assoc (D x) (e x) (neg_ℤ (M x)))

-- What `accumulate` leaves is the noise of the streams.
pub accumulated : (P : Params) (b coins secrets stream : List ℕ) (a e h : ℕ) {zeros errors x rest acc : List ℤ}
    → a ≡ low_length P → e ≡ low_length P + padded_length P → h ≡ high_length P → zeros ≡ replicate P.n (pos 0)
    → errors ≡ tabulate P.n (plus (of_ints zeros) (dot P.l P.n (small_in P (take (e - a) (drop a stream))) (small_in P secrets)))
    → x ≡ tabulate P.n (small_in P (take (e - a) (drop a stream)) P.l)
    → rest ≡ tabulate (length errors) (minus (of_ints x) (of_ints errors))
    → acc ≡ tabulate P.n (plus (of_ints rest) (dot P.l P.n (key_noise_in P stream secrets b) (ephemeral_by P coins
    (take (length stream - e) (drop e stream)) (take (length stream - (e + h)) (drop (e + h) stream)))))
    → acc ≡ tabulate P.n (noise_in P b coins secrets stream)
unfolding noise_in
accumulated P b coins secrets stream a e h {zeros} {errors} {x} {rest} {acc} ea ee eh ez is_errors is_x is_rest is_acc =
    let n : ℕ = P.n in
    let L : ℕ = low_length P in
    let K : ℕ = padded_length P in
    let mid : List ℕ = take (e - a) (drop a stream) in
    let high : List ℕ = take (length stream - e) (drop e stream) in
    let last : List ℕ = take (length stream - (e + h)) (drop (e + h) stream) in
    let of : List ℕ → List ℕ → List ℕ → List ℤ
    = λ m g s. tabulate n
    (minus (plus (dot P.l n (key_noise_in P stream secrets b) (ephemeral_by P coins g s)) (small_in P m P.l))
    (dot P.l n (small_in P m) (small_in P secrets))) in
    let long : length errors ≡ n = ap length is_errors ∙ length-tabulate n _ in
    let less : rest ≡ tabulate n (minus (of_ints (tabulate n (small_in P mid P.l))) (of_ints errors))
    = is_rest ∙ ap₂ (λ (m : ℕ) (l : List ℤ). tabulate m (minus (of_ints l) (of_ints errors))) long is_x in
    is_acc ∙ tabulate_ext n _ _ (λ y l.
    noise_made n (dot P.l n (key_noise_in P stream secrets b) (ephemeral_by P coins high last))
    (dot P.l n (small_in P mid) (small_in P secrets)) (small_in P mid P.l) y l ez is_errors less)
    ∙ ap₂ (λ (m g : List ℕ). of m g last) (ap₂ (λ (i j : ℕ). take i (drop j stream)) (ap₂ ◌-◌ ee ea ∙ add-sub_cancel_left L K) ea)
    (take_rest e stream ∙ ap (λ (i : ℕ). drop i stream) ee)
    ∙ ap (of (take K (drop L stream)) (drop (L + K) stream))
    (take_rest (e + h) stream ∙ ap (λ (i : ℕ). drop i stream) (ap₂ ◌+◌ ee eh))

-- The streams one after the other.
pub streams_split : (P : Params) (b coins streams : List ℕ) {s : ℕ} → s ≡ secrets_length P
    → tabulate P.n (noise_in P b coins (take s streams) (take (length streams - s) (drop s streams))) ≡ noises_from P b coins streams
unfolding noises_from
streams_split P b coins streams {s} e =
    ap₂ (λ (g z : List ℕ). tabulate P.n (noise_in P b coins g z)) (ap (λ (i : ℕ). take i streams) e)
    (take_rest s streams ∙ ap (λ (i : ℕ). drop i streams) e)

-- ---- the stream of γ in the work area

-- It is there where `public_polynomials` keeps all of it.
pub stream_there : (P : Params) (sk work : List ℕ) {s : ℕ} {γ : List ℕ} → s ≡ secrets_length P → γ ≡ secret_seed P sk
    → take s work ≡ take s (shake P.rate γ (secrets_length P)) → Kept P sk work
stream_there P sk work {s} {γ} es eγ e =
    let m : ℕ = secrets_length P in
    ap (λ (i : ℕ). take i work) (sym es) ∙ e ∙ ap₂ (λ (i : ℕ) (g : List ℕ). take i (shake P.rate g m)) es eγ
    ∙ take_all m (shake P.rate (secret_seed P sk) m) (omega (arith, length-shake P.rate (secret_seed P sk) m))

-- What is written behind it leaves it.
pub stream_stays : (P : Params) (sk work ys : List ℕ) (k : ℕ) {s : ℕ} → s ≡ secrets_length P → s ≤ length work
    → Kept P sk work → Kept P sk (patched s k ys work)
stream_stays P sk work ys k {s} es room kept =
    ap (λ (i : ℕ). take i (patched s k ys work)) (sym es)
    ∙ take_at (take s work) (ys ++ drop k (drop s work)) s (length-take-le s work room) ∙ ap (λ (i : ℕ). take i work) es ∙ kept

-- Behind it stands the stream of the coins, once that is written.
pub streams_written : (P : Params) (sk coins message work : List ℕ) {s n : ℕ} {ys : List ℕ} → s ≡ secrets_length P
    → n ≡ coins_stream_length P → s + n ≤ length work → Kept P sk work → ys ≡ masked_stream P coins message
    → take (s + n) (patched s (s + n - s) ys work) ≡ shake P.rate (secret_seed P sk) (secrets_length P) ++ masked_stream P coins message
streams_written P sk coins message work {s} {n} {ys} es en room kept e =
    let long : length ys ≡ n = ap length e ∙ length-masked_stream P coins message ∙ sym en in
    ap (λ (k : ℕ). take (s + n) (patched s k ys work)) (add-sub_cancel_left s n) ∙ take-patched s n ys work long room
    ∙ ap₂ ◌++◌ (ap (λ (i : ℕ). take i work) es ∙ kept) e

-- Both together are as long as their lengths say.
pub streams_size : (P : Params) (sk coins message : List ℕ)
    → length (shake P.rate (secret_seed P sk) (secrets_length P) ++ masked_stream P coins message) ≡ secrets_length P + coins_stream_length P
streams_size P sk coins message =
    length-append (shake P.rate (secret_seed P sk) (secrets_length P)) (masked_stream P coins message)
    ∙ ap₂ ◌+◌ (length-shake P.rate (secret_seed P sk) (secrets_length P)) (length-masked_stream P coins message)

-- The parts of a secret key, the stream of the coins in the work area, with the mask in it, and the sums that begin at a ciphertext taken from 0.
-- Assumes nothing.
use mathlib.Core.Path.{◌≡◌, refl, sym, ap, ap₂, ◌∙◌}
use mathlib.Core.List.{List, [], ◌∷◌, ◌++◌}
use Prim.Native.Nat.{ℕ, zero, suc, ◌+◌, ◌-◌, ◌*◌, ◌≤◌, ◌<◌}
use native.Mathlib.Nat.{add-sub_cancel_left}
use native.Mathlib.Omega.{arith}
use lib.IntN.{ℤ, pos, ◌+ℤ◌, ◌-ℤ◌}
use lib.ListN.{length, get_or, take, drop, length-take, take-append-drop}
use lib.Seq.{take-take, take_at}
use Rattle.keccak.specs.Lists.{patched}
use Rattle.hash.specs.Shake.{shake}
use Rattle.hash.proofs.Laws.{length-shake}
use Rattle.bits.specs.Bits.{unpack}
use Rattle.bits.proofs.Digits.{length-unpack}
use Rattle.ring.specs.Integers.{Cong}
use Rattle.ring.specs.Poly.{plus, minus, of_nats, parts}
use Rattle.ring.proofs.Integers.{ring}
use Rattle.ring.proofs.Modular.{cong_refl, cong_of_eq, cong_trans, cong_add}
use Rattle.ring.proofs.Residues.{of_nats-residues}
use Rattle.kindi.specs.declared.Params.{Params}
use Rattle.kindi.specs.Params.{stored_length, low_length, padded_length, coins_stream_length}
use Rattle.kindi.specs.Streams.{mask, coins_stream}
use Rattle.kindi.specs.Keys.{public_part, secret_seed}
use Rattle.kindi.specs.Encrypt.{noiseless}
use Rattle.kindi.specs.Decrypt.{cipher_part}
use Rattle.kindi.proofs.Padding.{length-mask}
use Rattle.kindi.proofs.Strings.{coefficient-unpack, place_below}
use Rattle.vectors.specs.Vectors.{vector}
use Rattle.vectors.proofs.Congruent.{vector_near}
use Rattle.cipher_terms.specs.Inputs.{StreamOf}
use Rattle.ring.specs.Coefficients.{taken_from}

-- ---- lists

-- A part of what begins a list.
part_of_first : (e a k : ℕ) (xs : List ℕ) → a + k ≤ e → take k (drop a xs) ≡ take k (drop a (take e xs))
part_of_first e zero k xs h = sym (take-take k e xs (omega arith))
part_of_first zero (suc a) k xs h = absurd (omega arith)
part_of_first (suc e) (suc a) k [] h = refl
part_of_first (suc e) (suc a) k (x ∷ xs) h = part_of_first e a k xs (omega arith)

-- A part put where it was.
patched_self : (a k : ℕ) (xs : List ℕ) → patched a k (take k (drop a xs)) xs ≡ xs
patched_self a k xs = ap (λ (l : List ℕ). take a xs ++ l) (take-append-drop k (drop a xs)) ∙ take-append-drop a xs

-- ---- the secret key

-- The public key and the secret seed in it.
pub public_taken : (P : Params) (sk : List ℕ) {s : ℕ} → s ≡ stored_length P → take (s + P.seed) sk ≡ public_part P sk
unfolding public_part
public_taken P sk e = ap (λ (i : ℕ). take (i + P.seed) sk) e

pub seed_taken : (P : Params) (sk : List ℕ) {s : ℕ} → s ≡ stored_length P
    → take (s + P.seed + P.seed - (s + P.seed)) (drop (s + P.seed) sk) ≡ secret_seed P sk
unfolding secret_seed
seed_taken P sk {s} e =
    ap₂ (λ (i j : ℕ). take i (drop j sk)) (add-sub_cancel_left (s + P.seed) P.seed) (ap (λ (i : ℕ). i + P.seed) e)

-- ---- the stream of the coins

-- It begins the work area once it is written.
pub stream_there : (P : Params) (coins work first : List ℕ) {s : ℕ} → s ≡ coins_stream_length P → s ≤ length work
    → first ≡ shake P.rate coins (length (take s work)) → take (coins_stream_length P) (first ++ drop s work) ≡ coins_stream P coins
unfolding coins_stream
stream_there P coins work first {s} e room made =
    let long : length (take s work) ≡ s = simp length-take (omega arith) in
    let first_is : first ≡ shake P.rate coins (coins_stream_length P) = made ∙ ap (shake P.rate coins) (long ∙ e) in
    take_at first (drop s work) (coins_stream_length P) (ap length first_is ∙ length-shake P.rate coins (coins_stream_length P)) ∙ first_is

-- As it is, the mask itself lies in the mask's place.
pub stream_of : (P : Params) (coins : List ℕ) {stream : List ℕ} → stream ≡ coins_stream P coins → StreamOf P coins stream
unfolding mask
stream_of P coins e = record {
  inside = mask P coins;
  inside_long = length-mask P coins;
  stream_is = e ∙ sym (patched_self (low_length P) (padded_length P) (coins_stream P coins));
}

-- What keeps the work area up to the end of the mask keeps the mask.
pub mask_there : (P : Params) (coins work work' : List ℕ) {end : ℕ} → end ≡ low_length P + padded_length P
    → take (coins_stream_length P) work ≡ coins_stream P coins → take end work' ≡ take end work
    → take (padded_length P) (drop (low_length P) work') ≡ mask P coins
unfolding mask
mask_there P coins work work' {end} e stream kept =
    let L : ℕ = low_length P in
    let K : ℕ = padded_length P in
    part_of_first end L K work' (omega arith) ∙ ap (λ (l : List ℕ). take K (drop L l)) kept ∙ sym (part_of_first end L K work (omega arith))
    ∙ part_of_first (coins_stream_length P) L K work (omega arith) ∙ ap (λ (l : List ℕ). take K (drop L l)) stream

-- ---- the sums

-- 0 less c, added.
less : (s c : ℤ) → s +ℤ (pos 0 -ℤ c) ≡ s -ℤ c
less s c = simp ring

-- What is added to a ciphertext taken from 0 is less by the ciphertext.
pub sums_less : (P : Params) (pk ct coins : List ℕ) {N : ℕ} {us sums sums' : List ℕ} → N ≡ (P.l + 1) * P.n → us ≡ unpack P.k N ct
    → sums ≡ taken_from 0 us → sums' ≡ vector (P.l + 1) P.n (λ j. plus (noiseless P pk coins j) (parts P.n sums j))
    → sums' ≡ vector (P.l + 1) P.n (λ j. minus (noiseless P pk coins j) (cipher_part P ct j))
unfolding cipher_part
sums_less P pk ct coins {N} {us} {sums} long isU isS isS' =
    let m : ℕ = P.l + 1 in
    let n : ℕ = P.n in
    let inside : (j x : ℕ) → j < m → x < n → j * n + x < N = λ j x h l. rw long (place_below h l) in
    let us-long : length us ≡ N = ap length isU ∙ length-unpack P.k N ct in
    let near : (j x : ℕ) → j < m → x < n → Cong 65536 (parts n sums j x) (pos 0 -ℤ cipher_part P ct j x)
    = λ j x h l. rw isS
    (cong_trans (of_nats-residues (omega arith) (length us) (λ k. pos 0 -ℤ of_nats us k) (rw us-long (inside j x h l)))
    (cong_of_eq (ap (λ (c : ℕ). pos 0 -ℤ pos c)
    (ap (λ (l : List ℕ). get_or l (j * n + x) 0) isU ∙ sym (coefficient-unpack P.k n N ct j x (inside j x h l)))))) in
    isS' ∙ vector_near m n _ _ (λ j x h l.
    cong_trans (cong_add (cong_refl (noiseless P pk coins j x)) (near j x h l)) (cong_of_eq (less (noiseless P pk coins j x) (cipher_part P ct j x))))

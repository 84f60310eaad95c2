-- Laws of the masked message, and of the stream of the coins that it lies in. Assumes nothing.
use mathlib.Core.Path.{◌≡◌, refl, sym, ap, ap₂, ◌∙◌}
use mathlib.Core.List.{List, [], ◌∷◌, ◌++◌, append_assoc}
use Prim.Native.Nat.{ℕ, zero, suc, ◌+◌, ◌-◌, ◌<◌, ◌*◌, ◌^◌, ◌≤◌}
use native.Mathlib.Nat.{not-suc-le-zero, le_of_suc-le-suc, mul-suc, mul-le-mul_left, add_assoc, add-sub_cancel_left}
use native.Mathlib.Omega.{arith}
use lib.Bits.{bit_xor, xor_zero_r}
use lib.ListN.{length, get_or, take, drop, set, replicate, length-take, take-append-drop}
use lib.Pow.{pow_pos}
use lib.Seq.{drop-drop}
use Rattle.keccak.specs.Lists.{patched}
use Rattle.keccak.specs.Strings.{xor_into}
use Rattle.keccak.proofs.Parts.{length-patched, drop-patched, xor_into_nothing}
use Rattle.hash.specs.Shake.{shake}
use Rattle.kindi.specs.declared.Params.{Params}
use Rattle.kindi.specs.Params.{low_length, padded_length, high_length, coins_stream_length, WellFormed}
use Rattle.kindi.specs.Streams.{coins_stream, mask, coefficient, low_in, low_part}
use Rattle.kindi.specs.Encrypt.{padded, masked}
use Rattle.hash.proofs.Laws.{length-shake}
use Rattle.bits.specs.Bits.{Below}
use Rattle.ring.specs.Integers.{centred}
use Rattle.kindi.proofs.Strings.{coefficient-append, whole_bytes, place_below, shake_below}
use Rattle.kindi.proofs.Padding.{part_below}
use Rattle.cipher_terms.specs.Inputs.{StreamOf}

-- Adding one byte after the message is adding the message with that byte.
pub xor_end : (ds xs : List ℕ) (b : ℕ) → length xs < length ds
    → set (xor_into ds xs) (length xs) (bit_xor (get_or (xor_into ds xs) (length xs) 0) b) ≡ xor_into ds (xs ++ (b ∷ []))
unfolding xor_into
xor_end [] xs b h = absurd (not-suc-le-zero h)
xor_end (d ∷ ds) [] b h = ap (λ (l : List ℕ). bit_xor d b ∷ l) (sym (xor_into_nothing ds))
xor_end (d ∷ ds) (x ∷ xs) b h = ap (λ (l : List ℕ). bit_xor d x ∷ l) (xor_end ds xs b (le_of_suc-le-suc h))

xor_blank : (k : ℕ) (ds : List ℕ) → xor_into ds (replicate k 0) ≡ ds
unfolding xor_into
xor_blank zero ds = xor_into_nothing ds
xor_blank (suc k) [] = refl
xor_blank (suc k) (d ∷ ds) = ap₂ ◌∷◌ (xor_zero_r d) (xor_blank k ds)

-- Zeros after it change nothing.
xor_zeros : (k : ℕ) (ds xs : List ℕ) → xor_into ds (xs ++ replicate k 0) ≡ xor_into ds xs
unfolding xor_into
xor_zeros k ds [] = xor_blank k ds ∙ sym (xor_into_nothing ds)
xor_zeros k [] (x ∷ xs) = refl
xor_zeros k (d ∷ ds) (x ∷ xs) = ap (λ (l : List ℕ). bit_xor d x ∷ l) (xor_zeros k ds xs)

-- The masked message: the mask with the message and its byte 01 added.
masked_is : (P : Params) (coins message : List ℕ) → xor_into (mask P coins) (message ++ (1 ∷ [])) ≡ masked P coins message
unfolding masked padded
masked_is P coins message =
    let k : ℕ = padded_length P - (length message + 1) in
    sym (xor_zeros k (mask P coins) (message ++ (1 ∷ [])))
    ∙ ap (xor_into (mask P coins)) (append_assoc message (1 ∷ []) (replicate k 0))

-- ---- the stream of the coins

pub length_stream : (P : Params) (coins : List ℕ) → length (coins_stream P coins) ≡ coins_stream_length P
unfolding coins_stream
length_stream P coins = length-shake P.rate coins (coins_stream_length P)

pub stream_below : (P : Params) (coins : List ℕ) → Below 256 (coins_stream P coins)
unfolding coins_stream
stream_below P coins = shake_below P.rate coins (coins_stream_length P)

-- The low parts do not reach the masked message.
pub low_there : (P : Params) → WellFormed P → (S rest : List ℕ) → Below 256 S → low_length P ≤ length S
    → (i x : ℕ) → i < P.l → x < P.n → low_in P (take (low_length P) S ++ rest) i x ≡ low_in P S i x
low_there P W S rest below long i x h l =
    let first : List ℕ = take (low_length P) S in
    let size : length first ≡ low_length P = simp length-take (omega arith) in
    let room : P.t * (i * P.n + x) + P.t ≤ 8 * length first
    = rw (size, sym (whole_bytes P W P.l P.t)) (rw (sym (mul-suc P.t (i * P.n + x))) (mul-le-mul_left P.t (place_below h l))) in
    let bytes : Below 256 first = part_below 256 0 (low_length P) S (pow_pos 8) below in
    ap (centred (2 ^ (P.t - 1)))
    (coefficient-append P.t P.n first rest i x bytes room
    ∙ sym (ap (λ (b : List ℕ). coefficient P.t P.n b i x) (sym (take-append-drop (low_length P) S))
    ∙ coefficient-append P.t P.n first (drop (low_length P) S) i x bytes room))

-- What `masked_stream` leaves.
pub masked_made : (P : Params) (coins message : List ℕ) (a e : ℕ) {N : ℕ} {S ys : List ℕ} → a ≡ low_length P
    → e ≡ low_length P + padded_length P
    → N ≡ coins_stream_length P → S ≡ shake P.rate coins N → ys ≡ xor_into (take (e - a) (drop a S)) (message ++ (1 ∷ []))
    → patched a (e - a) ys S ≡ patched (low_length P) (padded_length P) (masked P coins message) (coins_stream P coins)
unfolding coins_stream mask
masked_made P coins message a e {N} {S} {ys} ea ee en es ey =
    let stream : S ≡ coins_stream P coins = es ∙ ap (shake P.rate coins) en in
    let back : e - a ≡ padded_length P = ap₂ ◌-◌ ee ea ∙ add-sub_cancel_left (low_length P) (padded_length P) in
    let there : take (e - a) (drop a S) ≡ mask P coins = ap₂ take back (ap₂ drop ea stream) in
    let part : ys ≡ masked P coins message = ey ∙ ap (λ (l : List ℕ). xor_into l (message ++ (1 ∷ []))) there ∙ masked_is P coins message in
    ap₂ (λ (i j : ℕ). patched i j ys S) ea back ∙ ap₂ (patched (low_length P) (padded_length P)) part stream

-- A string that has the stream but for the mask's place is as long, and has the same low parts, high part and rest.
module _ {P : Params} {coins stream : List ℕ} (has : StreamOf P coins stream) where
  pub there_long : length stream ≡ coins_stream_length P
  there_long =
      ap length has.stream_is
      ∙ length-patched (low_length P) (padded_length P) has.inside (coins_stream P coins) has.inside_long (omega (arith, length_stream P coins))
      ∙ length_stream P coins

  pub there_low : WellFormed P → (i x : ℕ) → i < P.l → x < P.n → low_in P stream i x ≡ low_part P coins i x
  unfolding low_part
  there_low W i x h l =
      let S : List ℕ = coins_stream P coins in
      let long : low_length P ≤ length S = omega (arith, length_stream P coins) in
      ap (λ (b : List ℕ). low_in P b i x) has.stream_is
      ∙ low_there P W S (has.inside ++ drop (padded_length P) (drop (low_length P) S)) (stream_below P coins) long i x h l

  pub there_high : drop (low_length P + padded_length P) stream ≡ drop (low_length P + padded_length P) (coins_stream P coins)
  there_high =
      ap (drop (low_length P + padded_length P)) has.stream_is
      ∙ drop-patched (low_length P) (padded_length P) has.inside (coins_stream P coins) has.inside_long (omega (arith, length_stream P coins))

  pub there_rest : drop (low_length P + padded_length P + high_length P) stream
      ≡ drop (low_length P + (padded_length P + high_length P)) (coins_stream P coins)
  there_rest =
      let at : ℕ = low_length P + padded_length P in
      sym (drop-drop (high_length P) at stream) ∙ ap (drop (high_length P)) there_high ∙ drop-drop (high_length P) at (coins_stream P coins)
      ∙ ap (λ (i : ℕ). drop i (coins_stream P coins)) (add_assoc (low_length P) (padded_length P) (high_length P))

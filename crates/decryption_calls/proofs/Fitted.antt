-- What decryption and decapsulation answer where every length fits, from what the code has worked out: the checks of errors, of
-- the mark and of the digest. Assumes nothing.
use mathlib.Core.Path.{◌≡◌, refl, sym, ap, ap₂, ◌∙◌}
use mathlib.Core.Bool.{Bool, true, false, cond, not, ◌&&◌}
use mathlib.Core.List.{List, [], ◌∷◌, ◌++◌}
use Prim.Native.Nat.{ℕ, ◌+◌, ◌-◌, ◌≤◌, ◌<◌}
use native.Mathlib.Omega.{arith}
use borrow.Author.Tests.{eqb-true, not-false}
use lib.Dec.{eqb}
use lib.ListN.{length, take, drop, length-take, length-drop}
use lib.Seq.{length-take-le, take-take, take_at, drop_at}
use Rattle.keccak.specs.Lists.{patched}
use Rattle.keccak.specs.Strings.{xor_into}
use Rattle.keccak.proofs.Parts.{length-xor_into}
use Rattle.std.specs.Prelude.{Result}
use Rattle.std.specs.Result.{IsErrAnd}
use Rattle.calls.specs.declared.refusal.Refusal.{Refusal}
use Rattle.calls.specs.declared.refusal.Refusal.TheVariants.{ErrorTooLarge, WrongPadding, WrongDigest}
use Rattle.calls.specs.Refusals.{number_of, status_of, value_of}
use Rattle.calls.proofs.Refused.{refused_status, refused_value, refusal_not_0}
use Rattle.kindi.specs.declared.Params.{Params}
use Rattle.kindi.specs.Params.{WellFormed, padded_length, low_length}
use Rattle.kindi.specs.Keys.{public_part, secret_seed}
use Rattle.kindi.specs.Encrypt.{padded}
use Rattle.kindi.specs.Decrypt.{rounded_coins, unmasked, blank, marked, other, ending}
use Rattle.kindi.specs.Kem.{digest, shared_key}
use Rattle.kindi.specs.Answers.{answered, refuse_if, plain, same, Plain}
use Rattle.kindi.specs.Calls.{message_output}
use Rattle.kindi.proofs.Chains.{never, length-digest}
use Rattle.kindi.proofs.Padding.{length-mask, marked_padded}
use Rattle.decryption.specs.Opened.{opened, OpenExit}
use Rattle.decryption.proofs.Fitting.{opened_fits}
use Rattle.calls.proofs.Ends.{given}
use Rattle.calls.proofs.Checked.{Checked, unchecked, check_before, check_first, zero_check, refused_number, answered_number, refused_output}
use Rattle.calls.proofs.Checked.{refused_returned, given_returned}
use Rattle.decryption_calls.specs.Fitting.{decrypt_fitting, decaps_fitting, ending_of, all_zero, MessageExit, KeyExit}
use Rattle.decryption_calls.proofs.Endings.{same-padded}

-- A padded message as the code has it has the length of one.
length-opened : (P : Params) (pk coins ct : List ℕ) → length (opened P pk coins ct) ≡ padded_length P
unfolding opened
length-opened P pk coins ct = length-xor_into _ _ ∙ length-mask P coins

-- ---- decrypt

-- Only the mark 01 gives a message.
plain_cases : (coins message : List ℕ) (z o : Bool) → (z ≡ true → o ≡ false)
    → plain coins (cond z blank (cond o (marked message) other)) ≡
    refuse_if (not o) 6 (answered (record { coins = coins; message = message }))
unfolding plain refuse_if
plain_cases coins message true true h = never (cc (h refl))
plain_cases coins message true false h = refl
plain_cases coins message false true h = refl
plain_cases coins message false false h = refl

-- 0 is not 1.
not-one : (mark : ℕ) → eqb mark 0 ≡ true → eqb mark 1 ≡ false
not-one mark e = rw (eqb-true mark 0 e)

plain-ending : (coins xs : List ℕ) (mark len : ℕ)
    → plain coins (ending_of xs mark len) ≡ refuse_if (not (eqb mark 1)) 6 (answered (record { coins = coins; message = take len xs }))
unfolding ending_of
plain-ending coins xs mark len = plain_cases coins (take len xs) (eqb mark 0) (eqb mark 1) (not-one mark)

-- Where the mark is 01, it stands within the padded message.
marked_within : (P : Params) (xs : List ℕ) (mark len : ℕ) → length xs ≡ padded_length P → ending xs ≡ ending_of xs mark len
    → len ≤ length xs → mark ≡ 1 → len < padded_length P
unfolding ending_of
marked_within P xs mark len long e h one =
    let is : ending xs ≡ marked (take len xs) = rw one at e in
    let within : length (take len xs) < padded_length P = (marked_padded P xs (take len xs) long is).0 in
    rw (length-take-le len xs h) at within

-- The d bytes of the work area from l on, where the padded message lies.
abbrev part : ℕ → ℕ → List ℕ → List ℕ
part l d work = take (l + d - l) (drop l work)

-- What the code has once decryption has run: the coins found, whether every error fits, and the work area with its lengths.
pub record Opening (P : Params) (sk ct found work : List ℕ) (fits : Bool) (l d : ℕ) : Type 0 where
  pub well : WellFormed P
  pub coins_are : found ≡ rounded_coins P (secret_seed P sk) ct
  pub exit : OpenExit P sk ct found fits work
  pub low_is : l ≡ low_length P
  pub padded_is : d ≡ padded_length P

module _ {P : Params} {sk ct found work : List ℕ} {fits : Bool} {l d : ℕ} (h : Opening P sk ct found work fits l d) where
  part-opened : part l d work ≡ opened P (public_part P sk) found ct
  part-opened =
      let long : l + d - l ≡ padded_length P = omega (arith, h.padded_is) in
      ap₂ (λ (a b : ℕ). take a (drop b work)) long h.low_is ∙ h.exit.padded_is

  part_long : length (part l d work) ≡ padded_length P
  part_long = ap length part-opened ∙ length-opened P (public_part P sk) found ct

  -- Where every error fits, it is the padded message of the definition.
  part-unmasked : not fits ≡ false → part l d work ≡ unmasked P (public_part P sk) found ct
  part-unmasked e = part-opened ∙ opened_fits P h.well (public_part P sk) found ct (sym h.exit.fits_is ∙ not-false fits e)

-- The status of the last checks of decryption.
abbrev pub message_status : Bool → ℕ → ℕ
message_status fits mark = cond (not fits) 5 (cond (not (eqb mark 1)) 6 0)

pub refused_message : (fits : Bool) (mark : ℕ) {e : Refusal} → (fits && eqb mark 1 ≡ false) × (e ≡ cond fits WrongPadding ErrorTooLarge)
    → number_of e ≡ message_status fits mark
refused_message true mark h = rw (h.1, h.0)
refused_message false mark h = rw h.1

pub passed_message : (fits : Bool) (mark : ℕ) → fits && eqb mark 1 ≡ true → 0 ≡ message_status fits mark
passed_message true mark h = rw h
passed_message false mark h = never (cc h)

-- And once these tests are made: how the padded message ends.
pub record MessageChecks (P : Params) (sk ct found work : List ℕ) (fits : Bool) (l d mark len : ℕ) : Type 0 where
  pub opening : Opening P sk ct found work fits l d
  pub ends : ending (part l d work) ≡ ending_of (part l d work) mark len
  pub within : len ≤ length (part l d work)

module _ {P : Params} {sk ct found work : List ℕ} {fits : Bool} {l d mark len : ℕ}
    (h : MessageChecks P sk ct found work fits l d mark len) where
  -- What the last checks of decryption say of the answer.
  message_checked : Checked (decrypt_fitting P sk ct) (answered (record { coins = found; message = take len (part l d work) }))
      (message_status fits mark)
  unfolding decrypt_fitting
  message_checked =
      rw (← h.opening.coins_are, ← h.opening.exit.fits_is)
      (check_before (not fits) 5 (omega arith) (λ fit.
      rw (← part-unmasked h.opening fit, h.ends, plain-ending found (part l d work) mark len)
      (check_first (not (eqb mark 1)) 6 (omega arith) unchecked)))

  -- A refusal.
  pub message_refused : {A : Type 0} (f : A → ℕ) (coins message : List ℕ) (r : Result A Refusal) (e : Refusal)
      → number_of e ≡ message_status fits mark → IsErrAnd r (λ g. g ≡ e)
      → MessageExit (decrypt_fitting P sk ct) coins message (status_of r) coins message (value_of f r)
  message_refused f coins message r e is passed =
      let refused = message_checked.refuses (λ z. refusal_not_0 e (is ∙ z)) in
      record {
        number_is = refused_status r e passed ∙ is ∙ refused_number refused;
        coins_are = refused_output _ coins refused;
        message_is = refused_output _ message refused;
        length_is = sym (refused_value f r e passed) ∙ refused_returned _ refused;
      }

  -- Where nothing is refused, the message is shorter than the padded one.
  pub message_short : 0 ≡ message_status fits mark → len < padded_length P
  message_short is =
      let c1 = zero_check (not fits) 5 (omega arith) (sym is) in
      let c2 = zero_check (not (eqb mark 1)) 6 (omega arith) c1.1 in
      marked_within P (part l d work) mark len (part_long h.opening) h.ends h.within (eqb-true mark 1 (not-false _ c2.0))

  -- Success.
  pub message_answered : (coins message : List ℕ) {coins' message' : List ℕ} → 0 ≡ message_status fits mark → coins' ≡ found
      → message' ≡ message_output (length message) (take (l + len - l) (drop l work))
      → MessageExit (decrypt_fitting P sk ct) coins message 0 coins' message' len
  message_answered coins message is is-coins is-message =
      let answer = message_checked.goes_on (sym is) in
      let within : len ≤ l + d - l = omega (arith, message_short is, h.opening.padded_is) in
      let count : l + len - l ≡ len = omega arith in
      let taken : take (l + len - l) (drop l work) ≡ take len (part l d work) =
      ap (λ (n : ℕ). take n (drop l work)) count ∙ sym (take-take len (l + d - l) (drop l work) within)
      in
      record {
        number_is = answered_number answer;
        coins_are = is-coins ∙ given (λ (v : Plain). v.coins) coins answer;
        message_is = is-message ∙ ap (message_output (length message)) taken
            ∙ given (λ (v : Plain). message_output (length message) v.message) message answer;
        length_is = sym (length-take-le len (part l d work) h.within) ∙ given_returned (λ (v : Plain). length v.message) answer;
      }

-- ---- decaps

-- A part that has come back is read again.
part-patched : (a k : ℕ) (ys xs : List ℕ) → length ys ≡ k → a + k ≤ length xs → take k (drop a (patched a k ys xs)) ≡ ys
part-patched a k ys xs e h =
    ap (take k) (drop_at (take a xs) (ys ++ drop k (drop a xs)) a (length-take-le a xs (omega arith))) ∙ take_at ys (drop k (drop a xs)) k e

-- The status of the last checks of decapsulation.
abbrev pub key_status : Bool → Bool → ℕ
key_status fits equal = cond (not fits) 5 (cond (not equal) 7 0)

pub refused_key : (fits equal : Bool) {e : Refusal} → (fits && equal ≡ false) × (e ≡ cond fits WrongDigest ErrorTooLarge)
    → number_of e ≡ key_status fits equal
refused_key true equal h = rw (h.1, h.0)
refused_key false equal h = rw h.1

pub passed_key : (fits equal : Bool) → fits && equal ≡ true → 0 ≡ key_status fits equal
passed_key true equal h = rw h
passed_key false equal h = never (cc h)

-- The same of decapsulation: the digest of the coins, its padded message added to the one in the work area, and whether that
-- leaves zeros.
pub record KeyChecks (P : Params) (sk ct found work : List ℕ) (fits : Bool) (l d : ℕ) (hashed added : List ℕ) (equal : Bool) : Type 0 where
  pub opening : Opening P sk ct found work fits l d
  pub digest_is : hashed ≡ digest P found
  pub added_is : added ≡ xor_into (part l d work) (hashed ++ (1 ∷ []))
  pub equal_is : equal ≡ all_zero (part l d (patched l (l + d - l) added work))

module _ {P : Params} {sk ct found work : List ℕ} {fits : Bool} {l d : ℕ} {hashed added : List ℕ} {equal : Bool}
    (h : KeyChecks P sk ct found work fits l d hashed added equal) where
  -- What is read back is what was added.
  read_back : part l d (patched l (l + d - l) added work) ≡ added
  read_back =
      let long = part_long h.opening in
      let count : length added ≡ l + d - l =
      ap length h.added_is ∙ length-xor_into _ _ ∙ long ∙ omega (arith, h.opening.padded_is)
      in
      part-patched l (l + d - l) added work count
      (omega (arith, h.opening.well.digest_fits, h.opening.padded_is, simp (length-take, length-drop) at long))

  -- What the last checks of decapsulation say of the answer.
  key-checked : Checked (decaps_fitting P sk ct) (answered (shared_key P found ct)) (key_status fits equal)
  unfolding decaps_fitting
  key-checked =
      let its = part l d work in
      let short : length (digest P found) < padded_length P = rw (length-digest P found) h.opening.well.digest_fits in
      let same-is : same its (padded P (digest P found)) ≡ equal =
      same-padded P its (digest P found) (part_long h.opening) short
      ∙ ap (λ (x : List ℕ). all_zero (xor_into its (x ++ (1 ∷ [])))) (sym h.digest_is)
      ∙ ap all_zero (sym h.added_is ∙ sym read_back) ∙ sym h.equal_is
      in
      rw (← h.opening.coins_are, ← h.opening.exit.fits_is)
      (check_before (not fits) 5 (omega arith) (λ fit.
      rw (← part-unmasked h.opening fit, same-is) (check_first (not equal) 7 (omega arith) unchecked)))

  -- A refusal.
  pub key_refused : {A : Type 0} (key : List ℕ) (r : Result A Refusal) (e : Refusal) → number_of e ≡ key_status fits equal
      → IsErrAnd r (λ g. g ≡ e) → KeyExit (decaps_fitting P sk ct) key (status_of r) key
  key_refused key r e is passed =
      let refused = key-checked.refuses (λ z. refusal_not_0 e (is ∙ z)) in
      record {
        number_is = refused_status r e passed ∙ is ∙ refused_number refused;
        key_is = refused_output _ key refused;
      }

  -- Success.
  pub key_answered : (key : List ℕ) {key' : List ℕ} → 0 ≡ key_status fits equal → key' ≡ shared_key P found ct
      → KeyExit (decaps_fitting P sk ct) key 0 key'
  key_answered key is made =
      let answer = key-checked.goes_on (sym is) in
      record { number_is = answered_number answer; key_is = made ∙ given (λ (k : List ℕ). k) key answer }

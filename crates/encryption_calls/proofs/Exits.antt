-- The two exits of each call: what the code knows of its parameters, its status and what the inner function leaves gives what
-- the call ensures; and before that, what the inner function asks. Assumes nothing.
use mathlib.Core.Path.{◌≡◌, refl, sym, ap, ◌∙◌}
use mathlib.Core.List.{List}
use Prim.Native.Nat.{ℕ}
use lib.ListN.{length}
use Rattle.std.specs.Prelude.{Result}
use Rattle.std.specs.Result.{IsErrAnd}
use Rattle.calls.specs.declared.refusal.Refusal.{Refusal}
use Rattle.calls.specs.Refusals.{number_of, status_of}
use Rattle.kindi.specs.declared.Params.{Params}
use Rattle.kindi.specs.Params.{Parameters, of_set, keygen_work, encrypt_work}
use Rattle.kindi.specs.Keys.{public_key, secret_key}
use Rattle.kindi.specs.Encrypt.{ciphertext}
use Rattle.kindi.specs.Kem.{digest, shared_key}
use Rattle.kindi.specs.Answers.{Keys, Shared}
use Rattle.kindi.specs.Calls.{number, work_after, keygen_call, encrypt_call, encaps_call}
use Rattle.calls.proofs.Ends.{unchanged, given, wiped_any}
use Rattle.calls.proofs.Refused.{refused_status, refusal_not_0}
use Rattle.encryption_calls.proofs.Calls.{Done, encrypt_status_lem, encrypt_done, encaps_status_lem, encaps_done, keygen_status_lem, keygen_done, keys, shared}
use Rattle.keys.specs.Inputs.{KeygenRoom}
use Rattle.encryption.specs.Inputs.{EncryptRoom}
use Rattle.encryption_calls.specs.Status.{keygen_status, encrypt_status, encaps_status}
use Rattle.encryption_calls.specs.Exits.{KeygenExit, EncryptExit, EncapsExit}

-- ---- encrypt

module _ {set : ℕ} {P : Params} (pk coins message ct work : List ℕ) (p : Parameters set P) where
  -- The number of the checks' result is that of the answer.
  encrypt-number : {s : ℕ} → s ≡ encrypt_status set P (length pk) (length coins) (length message) (length ct) (length work)
      → s ≡ number (encrypt_call set pk coins message (length ct) (length work))
  encrypt-number is = rw p.are at is ∙ encrypt_status_lem set pk coins message (length ct) (length work)

  -- The exit of a refusal.
  pub encrypt_refused : {A : Type 0} (r : Result A Refusal) (e : Refusal)
      → number_of e ≡ encrypt_status set P (length pk) (length coins) (length message) (length ct) (length work)
      → IsErrAnd r (λ f. f ≡ e)
      → EncryptExit set pk coins message ct work (status_of r) ct (work_after set (encrypt_work (of_set set)) work)
  encrypt_refused r e is passed = record {
    returned = refused_status r e passed ∙ encrypt-number is;
    ciphertext = unchanged _ _ ct (λ h. refusal_not_0 e (encrypt-number is ∙ h));
    wiped = refl;
  }

  -- Where no check refuses, the lengths fit, and the answer is the values.
  encrypt_ends : 0 ≡ encrypt_status set P (length pk) (length coins) (length message) (length ct) (length work)
      → Done set (EncryptRoom P pk coins message ct work)
      (encrypt_call set pk coins message (length ct) (length work)) (ciphertext P pk coins message)
  encrypt_ends is = rw p.are (encrypt_done set pk coins message ct work (sym (encrypt-number is)))

  -- So the inner function may be called.
  pub encrypt_fits : 0 ≡ encrypt_status set P (length pk) (length coins) (length message) (length ct) (length work)
      → EncryptRoom P pk coins message ct work
  encrypt_fits is = (encrypt_ends is).fit

  -- The exit of success; `left` is what the inner function leaves in the work area.
  pub encrypt_exit : (left : List ℕ) {ct' : List ℕ}
      → 0 ≡ encrypt_status set P (length pk) (length coins) (length message) (length ct) (length work)
      → ct' ≡ ciphertext P pk coins message → length left ≡ length work
      → EncryptExit set pk coins message ct work 0 ct' (work_after set (encrypt_work (of_set set)) left)
  encrypt_exit left is made l =
      let done = encrypt_ends is in
      record {
        returned = encrypt-number is;
        ciphertext = made ∙ given (λ c. c) ct done.answers;
        wiped = wiped_any set _ left work done.there (rw (← p.are) done.fit.work_long) l;
      }

-- ---- encaps

module _ {set : ℕ} {P : Params} (pk coins key ct work : List ℕ) (p : Parameters set P) where
  -- The number of the checks' result is that of the answer.
  encaps-number : {s : ℕ} → s ≡ encaps_status set P (length pk) (length coins) (length key) (length ct) (length work)
      → s ≡ number (encaps_call set pk coins (length key) (length ct) (length work))
  encaps-number is = rw p.are at is ∙ encaps_status_lem set pk coins (length key) (length ct) (length work)

  -- The exit of a refusal.
  pub encaps_refused : {A : Type 0} (r : Result A Refusal) (e : Refusal)
      → number_of e ≡ encaps_status set P (length pk) (length coins) (length key) (length ct) (length work)
      → IsErrAnd r (λ f. f ≡ e)
      → EncapsExit set pk coins key ct work (status_of r) key ct (work_after set (encrypt_work (of_set set)) work)
  encaps_refused r e is passed = record {
    returned = refused_status r e passed ∙ encaps-number is;
    key_is = unchanged _ _ key (λ h. refusal_not_0 e (encaps-number is ∙ h));
    ciphertext = unchanged _ _ ct (λ h. refusal_not_0 e (encaps-number is ∙ h));
    wiped = refl;
  }

  -- Where no check refuses, the lengths fit, and the answer is the values.
  encaps_ends : 0 ≡ encaps_status set P (length pk) (length coins) (length key) (length ct) (length work)
      → Done set ((length key ≡ P.coins) × EncryptRoom P pk coins key ct work)
      (encaps_call set pk coins (length key) (length ct) (length work)) (shared P pk coins)
  encaps_ends is = rw p.are (encaps_done set pk coins key ct work (sym (encaps-number is)))

  -- So encryption may be called, on a message that is as long as the key.
  pub encaps_fits : (d : List ℕ) → 0 ≡ encaps_status set P (length pk) (length coins) (length key) (length ct) (length work)
      → length d ≡ length key → EncryptRoom P pk coins d ct work
  encaps_fits d is l =
      let room = (encaps_ends is).fit.1 in
      record {
        well = room.well;
        public_long = room.public_long;
        coins_long = room.coins_long;
        message_fits = rw l room.message_fits;
        cipher_long = room.cipher_long;
        work_long = room.work_long;
      }

  -- The key's buffer has the length of the digest and of the key.
  pub key_long : 0 ≡ encaps_status set P (length pk) (length coins) (length key) (length ct) (length work) → length key ≡ P.coins
  key_long is = (encaps_ends is).fit.0

  -- The exit of success; `left` is what the inner function leaves in the work area.
  pub encaps_exit : (left : List ℕ) {d ct' key' : List ℕ}
      → 0 ≡ encaps_status set P (length pk) (length coins) (length key) (length ct) (length work)
      → d ≡ digest P coins → ct' ≡ ciphertext P pk coins d → key' ≡ shared_key P coins ct' → length left ≡ length work
      → EncapsExit set pk coins key ct work 0 key' ct' (work_after set (encrypt_work (of_set set)) left)
  encaps_exit left {d} {ct'} is is-d is-ct is_key l =
      let done = encaps_ends is in
      let cipher : ct' ≡ ciphertext P pk coins (digest P coins) = is-ct ∙ ap (ciphertext P pk coins) is-d in
      record {
        returned = encaps-number is;
        key_is = is_key ∙ ap (shared_key P coins) cipher ∙ given (λ (s : Shared). s.key) key done.answers;
        ciphertext = cipher ∙ given (λ (s : Shared). s.ciphertext) ct done.answers;
        wiped = wiped_any set _ left work done.there (rw (← p.are) done.fit.1.work_long) l;
      }

-- ---- keygen

module _ {set : ℕ} {P : Params} (μ γ z pk sk work : List ℕ) (p : Parameters set P) where
  -- The number of the checks' result is that of the answer.
  keygen-number : {s : ℕ} → s ≡ keygen_status set P (length μ) (length γ) (length z) (length pk) (length sk) (length work)
      → s ≡ number (keygen_call set μ γ z (length pk) (length sk) (length work))
  keygen-number is = rw p.are at is ∙ keygen_status_lem set μ γ z (length pk) (length sk) (length work)

  -- The exit of a refusal.
  pub keygen_refused : {A : Type 0} (r : Result A Refusal) (e : Refusal)
      → number_of e ≡ keygen_status set P (length μ) (length γ) (length z) (length pk) (length sk) (length work)
      → IsErrAnd r (λ f. f ≡ e)
      → KeygenExit set μ γ z pk sk work (status_of r) pk sk (work_after set (keygen_work (of_set set)) work)
  keygen_refused r e is passed = record {
    returned = refused_status r e passed ∙ keygen-number is;
    public = unchanged _ _ pk (λ h. refusal_not_0 e (keygen-number is ∙ h));
    secret = unchanged _ _ sk (λ h. refusal_not_0 e (keygen-number is ∙ h));
    wiped = refl;
  }

  -- Where no check refuses, the lengths fit, and the answer is the values.
  keygen_ends : 0 ≡ keygen_status set P (length μ) (length γ) (length z) (length pk) (length sk) (length work)
      → Done set (KeygenRoom P μ γ z pk sk work) (keygen_call set μ γ z (length pk) (length sk) (length work)) (keys P μ γ z)
  keygen_ends is = rw p.are (keygen_done set μ γ z pk sk work (sym (keygen-number is)))

  -- So the inner function may be called.
  pub keygen_fits : 0 ≡ keygen_status set P (length μ) (length γ) (length z) (length pk) (length sk) (length work)
      → KeygenRoom P μ γ z pk sk work
  keygen_fits is = (keygen_ends is).fit

  -- The exit of success; `left` is what the inner function leaves in the work area.
  pub keygen_exit : (left : List ℕ) {pk' sk' : List ℕ}
      → 0 ≡ keygen_status set P (length μ) (length γ) (length z) (length pk) (length sk) (length work)
      → (pk' ≡ public_key P μ γ) × (sk' ≡ secret_key P μ γ z) → length left ≡ length work
      → KeygenExit set μ γ z pk sk work 0 pk' sk' (work_after set (keygen_work (of_set set)) left)
  keygen_exit left is made l =
      let done = keygen_ends is in
      record {
        returned = keygen-number is;
        public = made.0 ∙ given (λ (k : Keys). k.public_key) pk done.answers;
        secret = made.1 ∙ given (λ (k : Keys). k.secret_key) sk done.answers;
        wiped = wiped_any set _ left work done.there (rw (← p.are) done.fit.work_long) l;
      }

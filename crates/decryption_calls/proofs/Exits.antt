-- The two exits of each call: what the code knows of its parameters, its status and what the inner function leaves gives what
-- the call ensures; and before that, what the inner function asks. Assumes nothing.
use mathlib.Core.Path.{◌≡◌, refl, sym, ◌∙◌}
use mathlib.Core.List.{List}
use Prim.Native.Nat.{ℕ}
use native.Mathlib.Omega.{arith}
use lib.ListN.{length, take}
use lib.Seq.{length-take-le}
use Rattle.std.specs.Prelude.{Result}
use Rattle.std.specs.Result.{IsErrAnd}
use Rattle.calls.specs.declared.refusal.Refusal.{Refusal}
use Rattle.calls.specs.Refusals.{number_of, status_of, value_of}
use Rattle.kindi.specs.declared.Params.{Params}
use Rattle.kindi.specs.Params.{WellFormed, Parameters, of_set, decrypt_work}
use Rattle.kindi.specs.Calls.{work_after, decrypt_call, decaps_call}
use Rattle.calls.proofs.Ends.{wiped_any}
use Rattle.calls.proofs.Checked.{Checked, refused_number, refused_output, refused_returned}
use Rattle.calls.proofs.Refused.{refused_status, refused_value, refusal_not_0}
use Rattle.decryption_calls.specs.Status.{decrypt_status, decaps_status}
use Rattle.decryption_calls.specs.Fitting.{decrypt_fitting, decaps_fitting, MessageRoom, MessageExit, KeyRoom, KeyExit}
use Rattle.decryption_calls.specs.Exits.{DecryptExit, DecapsExit}
use Rattle.decryption_calls.proofs.Calls.{decrypt-checked, DecryptLengths, decrypt_lengths, decaps-checked, DecapsLengths, decaps_lengths}

-- Coins fit into a room of 64 bytes.
pub coins_room : (P : Params) (room : List ℕ) → WellFormed P → length room ≡ 64 → length (take P.coins room) ≡ P.coins
coins_room P room w l = length-take-le P.coins room (omega (arith, w.coin_bits, w.short))

-- ---- decrypt

module _ {set : ℕ} {P : Params} (sk ct coins message work : List ℕ) (p : Parameters set P) where
  -- What the checks say of the answer.
  decrypt_behind : {s : ℕ} → s ≡ decrypt_status set P (length sk) (length ct) (length coins) (length message) (length work)
      → Checked (decrypt_call set sk ct (length coins) (length message) (length work)) (decrypt_fitting P sk ct) s
  decrypt_behind is = rw (is, p.are) (decrypt-checked set sk ct (length coins) (length message) (length work))

  -- The exit of a refusal by the lengths.
  pub decrypt_refused : {A : Type 0} (f : A → ℕ) (r : Result A Refusal) (e : Refusal)
      → number_of e ≡ decrypt_status set P (length sk) (length ct) (length coins) (length message) (length work)
      → IsErrAnd r (λ g. g ≡ e)
      → DecryptExit set sk ct coins message work (status_of r) coins message (value_of f r) (work_after set (decrypt_work (of_set set)) work)
  decrypt_refused f r e is passed =
      let refused = (decrypt_behind is).refuses (refusal_not_0 e) in
      record {
        number_is = refused_status r e passed ∙ refused_number refused;
        coins_are = refused_output _ coins refused;
        message_is = refused_output _ message refused;
        length_is = sym (refused_value f r e passed) ∙ refused_returned _ refused;
        wiped = refl;
      }

  decrypt_long : 0 ≡ decrypt_status set P (length sk) (length ct) (length coins) (length message) (length work)
      → DecryptLengths set P (length sk) (length ct) (length coins) (length message) (length work)
  decrypt_long is = decrypt_lengths set P (length sk) (length ct) (length coins) (length message) (length work) (sym is)

  -- Where no check refuses, the inner function may be called.
  pub decrypt_fits : (found : List ℕ) → 0 ≡ decrypt_status set P (length sk) (length ct) (length coins) (length message) (length work)
      → length found ≡ P.coins → MessageRoom P sk ct found coins message work
  decrypt_fits found is l =
      let long = decrypt_long is in
      record {
        room = record {
          well = p.well;
          secret_long = long.secret_long;
          cipher_long = long.cipher_long;
          coins_long = l;
          work_long = long.work_long;
        };
        coins_long = long.coins_long;
        message_long = long.message_long;
      }

  -- The exit after the inner function, which leaves `left` in the work area.
  pub decrypt_exit : {s : ℕ} (left : List ℕ) {coins' message' : List ℕ} {len' : ℕ}
      → 0 ≡ decrypt_status set P (length sk) (length ct) (length coins) (length message) (length work)
      → MessageExit (decrypt_fitting P sk ct) coins message s coins' message' len' → length left ≡ length work
      → DecryptExit set sk ct coins message work s coins' message' len' (work_after set (decrypt_work (of_set set)) left)
  decrypt_exit left is made l =
      let long = decrypt_long is in
      let answer = (decrypt_behind is).goes_on refl in
      record {
        number_is = rw answer made.number_is;
        coins_are = rw answer made.coins_are;
        message_is = rw answer made.message_is;
        length_is = rw answer made.length_is;
        wiped = wiped_any set _ left work long.there (rw (← p.are) long.work_long) l;
      }

-- ---- decaps

module _ {set : ℕ} {P : Params} (sk ct key work : List ℕ) (p : Parameters set P) where
  -- What the checks say of the answer.
  decaps_behind : {s : ℕ} → s ≡ decaps_status set P (length sk) (length ct) (length key) (length work)
      → Checked (decaps_call set sk ct (length key) (length work)) (decaps_fitting P sk ct) s
  decaps_behind is = rw (is, p.are) (decaps-checked set sk ct (length key) (length work))

  -- The exit of a refusal by the lengths.
  pub decaps_refused : {A : Type 0} (r : Result A Refusal) (e : Refusal)
      → number_of e ≡ decaps_status set P (length sk) (length ct) (length key) (length work) → IsErrAnd r (λ g. g ≡ e)
      → DecapsExit set sk ct key work (status_of r) key (work_after set (decrypt_work (of_set set)) work)
  decaps_refused r e is passed =
      let refused = (decaps_behind is).refuses (refusal_not_0 e) in
      record { number_is = refused_status r e passed ∙ refused_number refused; key_is = refused_output _ key refused; wiped = refl }

  decaps_long : 0 ≡ decaps_status set P (length sk) (length ct) (length key) (length work)
      → DecapsLengths set P (length sk) (length ct) (length key) (length work)
  decaps_long is = decaps_lengths set P (length sk) (length ct) (length key) (length work) (sym is)

  -- Where no check refuses, the inner function may be called.
  pub decaps_fits : (found d : List ℕ) → 0 ≡ decaps_status set P (length sk) (length ct) (length key) (length work)
      → length found ≡ P.coins → length d ≡ P.coins → KeyRoom P sk ct found d key work
  decaps_fits found d is l m =
      let long = decaps_long is in
      record {
        room = record {
          well = p.well;
          secret_long = long.secret_long;
          cipher_long = long.cipher_long;
          coins_long = l;
          work_long = long.work_long;
        };
        digest_long = m;
        key_long = long.key_long;
      }

  -- The exit after the inner function, which leaves `left` in the work area.
  pub decaps_exit : {s : ℕ} (left : List ℕ) {key' : List ℕ} → 0 ≡ decaps_status set P (length sk) (length ct) (length key) (length work)
      → KeyExit (decaps_fitting P sk ct) key s key' → length left ≡ length work
      → DecapsExit set sk ct key work s key' (work_after set (decrypt_work (of_set set)) left)
  decaps_exit left is made l =
      let long = decaps_long is in
      let answer = (decaps_behind is).goes_on refl in
      record {
        number_is = rw answer made.number_is;
        key_is = rw answer made.key_is;
        wiped = wiped_any set _ left work long.there (rw (← p.are) long.work_long) l;
      }

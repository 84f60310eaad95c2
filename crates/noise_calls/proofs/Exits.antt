-- The two exits of each call: what the code knows of its parameters, its status and what the inner function leaves gives what
-- the call ensures; and before that, what the inner function asks. Assumes nothing.
use mathlib.Core.Path.{◌≡◌, refl, sym, ◌∙◌}
use mathlib.Core.List.{List}
use Prim.Native.Nat.{ℕ}
use lib.ListN.{length}
use Rattle.std.specs.Prelude.{Result}
use Rattle.std.specs.Result.{IsErrAnd}
use Rattle.calls.specs.declared.refusal.Refusal.{Refusal}
use Rattle.calls.specs.Refusals.{number_of, status_of, value_of}
use Rattle.calls.proofs.Refused.{refused_status, refused_value, refusal_not_0}
use Rattle.kindi.specs.declared.Params.{Params}
use Rattle.kindi.specs.Params.{Parameters, of_set, length_of, noise_work}
use Rattle.kindi.specs.Calls.{work_after, noise_call, choose_call}
use Rattle.calls.proofs.Ends.{wiped_any}
use Rattle.calls.proofs.Checked.{Checked, refused_number, refused_returned}
use Rattle.noise_calls.specs.Status.{noise_status, choose_status}
use Rattle.noise_calls.specs.Fitting.{noise_fitting, choose_fitting, NoiseRoom, SizeExit, ChooseRoom, PlaceExit}
use Rattle.noise_calls.specs.Exits.{NoiseExit, ChooseExit}
use Rattle.noise_calls.proofs.Fitted.{refused_place}
use Rattle.noise_calls.proofs.Calls.{noise-checked, NoiseLengths, noise_lengths, choose-checked, ChooseLengths, choose_lengths}

-- ---- noise

module _ {set : ℕ} {P : Params} (sk coins message work : List ℕ) (p : Parameters set P) where
  -- What the checks say of the answer.
  noise_behind : {s : ℕ} → s ≡ noise_status set P (length sk) (length coins) (length message) (length work)
      → Checked (noise_call set sk coins message (length work)) (noise_fitting P sk coins message) s
  noise_behind is = rw (is, p.are) (noise-checked set sk coins message (length work))

  -- The exit of a refusal by the lengths.
  pub noise_refused : {A : Type 0} (f g : A → ℕ) (r : Result A Refusal) (e : Refusal)
      → number_of e ≡ noise_status set P (length sk) (length coins) (length message) (length work) → IsErrAnd r (λ h. h ≡ e)
      → NoiseExit set sk coins message work (status_of r) (value_of f r) (value_of g r) (work_after set (noise_work (of_set set)) work)
  noise_refused f g r e is passed =
      let refused = (noise_behind is).refuses (refusal_not_0 e) in
      record {
        number_is = refused_status r e passed ∙ refused_number refused;
        clear_is = sym (refused_value f r e passed) ∙ refused_returned _ refused;
        largest_is = sym (refused_value g r e passed) ∙ refused_returned _ refused;
        wiped = refl;
      }

  noise_long : 0 ≡ noise_status set P (length sk) (length coins) (length message) (length work)
      → NoiseLengths set P (length sk) (length coins) (length message) (length work)
  noise_long is = noise_lengths set P (length sk) (length coins) (length message) (length work) (sym is)

  -- Where no check refuses, the inner function may be called.
  pub noise_fits : (b : List ℕ) → 0 ≡ noise_status set P (length sk) (length coins) (length message) (length work) → length b ≡ length_of P P.l P.k
      → NoiseRoom P sk coins message b work
  noise_fits b is l =
      let long = noise_long is in
      record {
        room = record { well = p.well; secret_long = long.secret_long; value_long = l; work_long = long.work_long };
        coins_long = long.coins_long;
        message_fits = long.message_fits;
      }

  -- The exit after the inner function, which leaves `left` in the work area.
  pub noise_exit : {s clear' largest' : ℕ} (left : List ℕ) → 0 ≡ noise_status set P (length sk) (length coins) (length message) (length work)
      → SizeExit (noise_fitting P sk coins message) s clear' largest' → length left ≡ length work
      → NoiseExit set sk coins message work s clear' largest' (work_after set (noise_work (of_set set)) left)
  noise_exit left is made l =
      let long = noise_long is in
      let answer = (noise_behind is).goes_on refl in
      record {
        number_is = rw answer made.number_is;
        clear_is = rw answer made.clear_is;
        largest_is = rw answer made.largest_is;
        wiped = wiped_any set _ left work long.there (rw (← p.are) long.work_long) l;
      }

-- ---- choose

module _ {set : ℕ} {P : Params} (sk message list work : List ℕ) (p : Parameters set P) where
  -- What the checks say of the answer.
  choose_behind : {s : ℕ} → s ≡ choose_status set P (length sk) (length message) (length list) (length work)
      → Checked (choose_call set sk message list (length work)) (choose_fitting P sk message list) s
  choose_behind is = rw (is, p.are) (choose-checked set sk message list (length work))

  -- The exit of a refusal by the lengths.
  pub choose_refused : {A : Type 0} (f : A → ℕ) (r : Result A Refusal) (e : Refusal)
      → number_of e ≡ choose_status set P (length sk) (length message) (length list) (length work) → IsErrAnd r (λ h. h ≡ e)
      → ChooseExit set sk message list work (status_of r) (value_of f r) (work_after set (noise_work (of_set set)) work)
  choose_refused f r e is passed =
      let refused = (choose_behind is).refuses (refusal_not_0 e) in
      record {
        number_is = refused_status r e passed ∙ refused_number refused;
        place_is = rw (← refused_value f r e passed) (refused_place refused);
        wiped = refl;
      }

  choose_long : 0 ≡ choose_status set P (length sk) (length message) (length list) (length work)
      → ChooseLengths set P (length sk) (length message) (length list) (length work)
  choose_long is = choose_lengths set P (length sk) (length message) (length list) (length work) (sym is)

  -- Where no check refuses, the inner function may be called.
  pub choose_fits : (b : List ℕ) → 0 ≡ choose_status set P (length sk) (length message) (length list) (length work) → length b ≡ length_of P P.l P.k
      → ChooseRoom P sk message list b work
  choose_fits b is l =
      let long = choose_long is in
      record {
        room = record { well = p.well; secret_long = long.secret_long; value_long = l; work_long = long.work_long };
        message_fits = long.message_fits;
        coins_whole = long.coins_whole;
      }

  -- The exit after the inner function, which leaves `left` in the work area.
  pub choose_exit : {s place' : ℕ} (left : List ℕ) → 0 ≡ choose_status set P (length sk) (length message) (length list) (length work)
      → PlaceExit (choose_fitting P sk message list) s place' → length left ≡ length work
      → ChooseExit set sk message list work s place' (work_after set (noise_work (of_set set)) left)
  choose_exit left is made l =
      let long = choose_long is in
      let answer = (choose_behind is).goes_on refl in
      record {
        number_is = rw answer made.number_is;
        place_is = rw answer made.place_is;
        wiped = wiped_any set _ left work long.there (rw (← p.are) long.work_long) l;
      }

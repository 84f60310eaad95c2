-- What the noise and the choice answer where every length fits, from what the code has worked out. Assumes nothing.
use mathlib.Core.Path.{◌≡◌, refl, sym, ap, ◌∙◌}
use mathlib.Core.Bool.{Bool, true, false, cond, not}
use mathlib.Core.List.{List}
use Prim.Native.Nat.{ℕ}
use native.Mathlib.Omega.{arith}
use lib.ListN.{length}
use Rattle.std.specs.Prelude.{Result, Option, Some, None}
use Rattle.std.specs.Option.{ok_or, is_some, unwrap_or}
use Rattle.std.specs.Result.{IsErrAnd}
use Rattle.calls.specs.declared.refusal.Refusal.{Refusal}
use Rattle.calls.specs.declared.refusal.Refusal.TheVariants.{WrongPublicKey, NoneClear}
use Rattle.calls.specs.Refusals.{number_of, status_of, value_of}
use Rattle.calls.proofs.Refused.{refused_status, refused_value, refusal_not_0}
use Rattle.kindi.specs.declared.Params.{Params}
use Rattle.kindi.specs.Answers.{Answer, refused, answered, refuse_if, agrees, clear_under, largest_under, clear_places, some, Size}
use Rattle.kindi.specs.Calls.{Place}
use Rattle.calls.proofs.Checked.{Checked, unchecked, check_first, refused_number, answered_number, refused_returned, given_returned}
use Rattle.noise.specs.Rooms.{KeyRoom, MeasureRoom, Kept}
use Rattle.noise_calls.specs.Fitting.{noise_fitting, choose_fitting, NoiseRoom, SizeExit, ChooseRoom, PlaceExit, SearchRoom, Search}

-- ---- noise

-- Once b and the stream of γ are known, the noise may be measured.
pub measure_room : {P : Params} {sk coins message b b' work work' : List ℕ} → NoiseRoom P sk coins message b work → KeyRoom P sk b'
    → length work' ≡ length work → Kept P sk work' → MeasureRoom P sk b' coins message work'
measure_room room key l kept = record {
  key = key;
  coins_long = room.coins_long;
  message_fits = room.message_fits;
  work_long = rw l room.room.work_long;
  stream_kept = kept;
}

module _ (P : Params) (sk coins message : List ℕ) (ok : Bool) (agree : ok ≡ agrees P sk) where
  abbrev size : Size
  size = record { is_clear = clear_under P sk coins message; largest = largest_under P sk coins message }

  noise-checked : Checked (noise_fitting P sk coins message) (answered size) (cond (not ok) 8 0)
  unfolding noise_fitting
  noise-checked = rw agree (check_first (not (agrees P sk)) 8 (omega arith) unchecked)

  -- A refusal.
  pub noise_refused : {A : Type 0} (f g : A → ℕ) (r : Result A Refusal) (e : Refusal) → (ok ≡ false) × (e ≡ WrongPublicKey)
      → IsErrAnd r (λ h. h ≡ e) → SizeExit (noise_fitting P sk coins message) (status_of r) (value_of f r) (value_of g r)
  noise_refused f g r e bad passed =
      let status : number_of e ≡ cond (not ok) 8 0 = rw (bad.1, bad.0) in
      let is = noise-checked.refuses (λ z. refusal_not_0 e (status ∙ z)) in
      record {
        number_is = refused_status r e passed ∙ status ∙ refused_number is;
        clear_is = sym (refused_value f r e passed) ∙ refused_returned _ is;
        largest_is = sym (refused_value g r e passed) ∙ refused_returned _ is;
      }

  -- Success.
  pub noise_answered : {clear : Bool} {largest : ℕ} → ok ≡ true → clear ≡ clear_under P sk coins message
      → largest ≡ largest_under P sk coins message → SizeExit (noise_fitting P sk coins message) 0 (cond clear 1 0) largest
  noise_answered good is-clear is-largest =
      let is = noise-checked.goes_on (rw good) in
      record {
        number_is = answered_number is;
        clear_is = ap (λ (t : Bool). cond t 1 0) is-clear ∙ given_returned (λ (s : Size). cond s.is_clear 1 0) is;
        largest_is = is-largest ∙ given_returned (λ (s : Size). s.largest) is;
      }

-- ---- choose

-- Once b and the stream of γ are known, the coins may be searched.
pub choose_room : {P : Params} {sk message list b b' work work' : List ℕ} → ChooseRoom P sk message list b work → KeyRoom P sk b'
    → length work' ≡ length work → Kept P sk work' → SearchRoom P sk b' message list work'
choose_room room key l kept = record {
  key = key;
  message_fits = room.message_fits;
  coins_whole = room.coins_whole;
  work_long = rw l room.room.work_long;
  stream_kept = kept;
}

-- The place after a refusal, and after success.
pub refused_place : {a : Answer (List Bool)} {s : ℕ} → a ≡ refused s → Place a 0
unfolding Place
refused_place e = rw e refl

answered_place : {a : Answer (List Bool)} {places : List Bool} (place : ℕ) → a ≡ answered places → Place (answered places) place → Place a place
answered_place place e h = rw e h

module _ (P : Params) (sk message list : List ℕ) (ok : Bool) (agree : ok ≡ agrees P sk) where
  abbrev places : List Bool
  places = clear_places P sk message list

  key-checked : Checked (choose_fitting P sk message list) (refuse_if (not (some places)) 9 (answered places)) (cond (not ok) 8 0)
  unfolding choose_fitting
  key-checked = rw agree (check_first (not (agrees P sk)) 8 (omega arith) unchecked)

  -- A refusal for another key.
  pub key_refused : {A : Type 0} (f : A → ℕ) (r : Result A Refusal) (e : Refusal) → (ok ≡ false) × (e ≡ WrongPublicKey)
      → IsErrAnd r (λ h. h ≡ e) → PlaceExit (choose_fitting P sk message list) (status_of r) (value_of f r)
  key_refused f r e bad passed =
      let status : number_of e ≡ cond (not ok) 8 0 = rw (bad.1, bad.0) in
      let is = key-checked.refuses (λ z. refusal_not_0 e (status ∙ z)) in
      record {
        number_is = refused_status r e passed ∙ status ∙ refused_number is;
        place_is = rw (← refused_value f r e passed) (refused_place is);
      }

  -- After the search.
  module _ {found : Bool} {place : ℕ} (good : ok ≡ true) (tried : Search places found place) where
    places-checked : Checked (choose_fitting P sk message list) (answered places) (cond (not found) 9 0)
    places-checked = rw (key-checked.goes_on (rw good), tried.found_is) (check_first (not (some places)) 9 (omega arith) unchecked)

    pub none_clear : found ≡ false → PlaceExit (choose_fitting P sk message list) 9 0
    none_clear none =
        let is = (rw none at places-checked).refuses (λ z. absurd (omega arith)) in
        record { number_is = refused_number is; place_is = refused_place is }

    pub some-clear : found ≡ true → PlaceExit (choose_fitting P sk message list) 0 place
    unfolding Place
    some-clear e =
        let is = places-checked.goes_on (rw e) in
        record { number_is = answered_number is; place_is = answered_place place is (tried.at_clear e) }

-- The choice is what the search finds, or the refusal that none is clear.
pub chosen : (P : Params) (sk message list : List ℕ) (ok : Bool) → ok ≡ agrees P sk → ok ≡ true → (o : Option ℕ) (r : Result ℕ Refusal)
    → Search (clear_places P sk message list) (is_some o) (unwrap_or o 0) → r ≡ ok_or o NoneClear
    → PlaceExit (choose_fitting P sk message list) (status_of r) (value_of (λ place. place) r)
chosen P sk message list ok agree good (Some place) r tried is = rw is (some-clear P sk message list ok agree good tried refl)
chosen P sk message list ok agree good None r tried is = rw is (none_clear P sk message list ok agree good tried refl)

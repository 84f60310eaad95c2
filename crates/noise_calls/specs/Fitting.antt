-- The noise and the choice where every length fits, and what their inner functions ask and leave. Rests on the definitions of
-- `kindi`.
use Rattle.std.specs.Prelude.{◌≡◌, Bool, true, false, cond, not, List, ℕ, ◌<◌, ◌≤◌, length, get_or}
use Rattle.kindi.specs.declared.Params.{Params}
use Rattle.kindi.specs.Params.{padded_length, noise_work}
use Rattle.kindi.specs.Answers.{Answer, answered, refuse_if, agrees, clear_under, largest_under, clear_places, some, Size}
use Rattle.kindi.specs.Calls.{number, returned, Place}
use Rattle.noise.specs.declared.Measured.{Measured}
use Rattle.noise.specs.Rooms.{ValueRoom, KeyRoom, Kept}
use Rattle.noise_calls.specs.Status.{whole_coins}

-- noise after its checks of lengths: refusal 8.
unfoldable pub noise_fitting : Params → List ℕ → List ℕ → List ℕ → Answer Size
noise_fitting P sk coins message =
    refuse_if (not (agrees P sk)) 8
    (answered (record { is_clear = clear_under P sk coins message; largest = largest_under P sk coins message }))

-- choose after its checks of lengths: refusals 8 and 9.
unfoldable pub choose_fitting : Params → List ℕ → List ℕ → List ℕ → Answer (List Bool)
choose_fitting P sk message list =
    refuse_if (not (agrees P sk)) 8
    (refuse_if (not (some (clear_places P sk message list))) 9
    (answered (clear_places P sk message list)))

-- The arguments of the noise, and room for b.
pub record NoiseRoom (P : Params) (sk coins message b work : List ℕ) : Type 0 where
  pub room : ValueRoom P sk b work
  pub coins_long : length coins ≡ P.coins
  pub message_fits : length message < padded_length P

-- What is measured, as the call returns it.
abbrev pub clear_flag : Measured → ℕ
clear_flag measured = cond measured.clear 1 0

abbrev pub largest_value : Measured → ℕ
largest_value measured = measured.largest

-- What the noise leaves of its returned values.
pub record SizeExit (answer : Answer Size) (status clear' largest' : ℕ) : Type 0 where
  pub number_is : status ≡ number answer
  pub clear_is : clear' ≡ returned answer (λ size. cond size.is_clear 1 0)
  pub largest_is : largest' ≡ returned answer (λ size. size.largest)

-- The arguments of the choice, and room for b.
pub record ChooseRoom (P : Params) (sk message list b work : List ℕ) : Type 0 where
  pub room : ValueRoom P sk b work
  pub message_fits : length message < padded_length P
  pub coins_whole : whole_coins P.coins (length list) ≡ true

-- What the choice leaves.
pub record PlaceExit (answer : Answer (List Bool)) (status place' : ℕ) : Type 0 where
  pub number_is : status ≡ number answer
  pub place_is : Place answer place'

-- The arguments of the search for clear coins, once b and the stream of γ are known.
pub record SearchRoom (P : Params) (sk b message list work : List ℕ) : Type 0 where
  pub key : KeyRoom P sk b
  pub message_fits : length message < padded_length P
  pub coins_whole : whole_coins P.coins (length list) ≡ true
  pub work_long : noise_work P ≤ length work
  pub stream_kept : Kept P sk work

-- What the search finds: whether some of the coins are clear, and then the place of such.
pub record Search (places : List Bool) (found : Bool) (place : ℕ) : Type 0 where
  pub found_is : found ≡ some places
  pub at_clear : found ≡ true → get_or places place false ≡ true

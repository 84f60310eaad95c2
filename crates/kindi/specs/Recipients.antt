-- What the theorems on several recipients speak of (02, No. 1): inputs that pass the checks up to 4, and two recipients with equal
-- coins. Rests on Params and Answers.
use Rattle.std.specs.Prelude.{◌≡◌, Bool, true, List, ℕ, ◌*◌, ◌≤◌, ◌<◌, length}
use Rattle.kindi.specs.declared.Params.{Params}
use Rattle.kindi.specs.Params.{public_length, padded_length}
use Rattle.kindi.specs.Answers.{coins_at}

-- What the checks up to 4 ask.
pub record EachFits (P : Params) (room : Bool) (count : ℕ) (keys list message : List ℕ) : Type 0 where
  pub some_recipients : 1 ≤ count
  pub few_recipients : count ≤ 12
  pub keys_long : length keys ≡ count * public_length P
  pub coins_long : length list ≡ count * P.coins
  pub message_fits : length message < padded_length P
  pub room_there : room ≡ true

-- Two recipients, at any two places, have equal coins.
pub record TwoEqual (P : Params) (count : ℕ) (list : List ℕ) : Type 0 where
  pub first : ℕ
  pub second : ℕ
  pub first_there : first < count
  pub second_there : second < count
  pub apart : first ≡ second → ⊥
  pub equal : coins_at P list first ≡ coins_at P list second

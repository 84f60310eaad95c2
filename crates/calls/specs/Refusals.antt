-- The numbers that the C interface has for refusals. Rests on the enum `Refusal` of src/.
use Rattle.std.specs.Prelude.{ℕ, Result, Ok, Err}
use Rattle.calls.specs.declared.refusal.Refusal.{Refusal}
use Rattle.calls.specs.declared.refusal.Refusal.TheVariants.{NoSuchSet, WrongInputLen, MessageTooLong, WrongOutputLen, ErrorTooLarge, WrongPadding}
use Rattle.calls.specs.declared.refusal.Refusal.TheVariants.{WrongDigest, WrongPublicKey, NoneClear, WrongCount, EqualCoins, PastLimit}

-- The number of a refusal.
abbrev pub number_of : Refusal → ℕ
number_of NoSuchSet = 1
number_of WrongInputLen = 2
number_of MessageTooLong = 3
number_of WrongOutputLen = 4
number_of ErrorTooLarge = 5
number_of WrongPadding = 6
number_of WrongDigest = 7
number_of WrongPublicKey = 8
number_of NoneClear = 9
number_of WrongCount = 13
number_of EqualCoins = 14
number_of PastLimit = 15

-- The status of a result: 0 is success.
abbrev pub status_of : {A : Type 0} → Result A Refusal → ℕ
status_of (Ok value) = 0
status_of (Err refusal) = number_of refusal

-- What a result gives, as a number; 0 after a refusal.
abbrev pub value_of : {A : Type 0} → (A → ℕ) → Result A Refusal → ℕ
value_of f (Ok value) = f value
value_of f (Err refusal) = 0

-- What a refusal that is passed on says of the result's status. Assumes nothing.
use mathlib.Core.Path.{◌≡◌, refl, ap}
use Prim.Native.Nat.{ℕ}
use native.Mathlib.Omega.{arith}
use Rattle.std.proofs.lemmas.Bool.Decides.{nat_tests}
use Rattle.std.specs.Prelude.{Result, Ok, Err}
use Rattle.std.specs.Result.{IsErrAnd}
use Rattle.calls.specs.declared.refusal.Refusal.{Refusal}
use Rattle.calls.specs.declared.refusal.Refusal.TheVariants.{NoSuchSet, WrongInputLen, MessageTooLong, WrongOutputLen, ErrorTooLarge, WrongPadding}
use Rattle.calls.specs.declared.refusal.Refusal.TheVariants.{WrongDigest, WrongPublicKey, NoneClear, WrongCount, EqualCoins, PastLimit}
use Rattle.calls.specs.Refusals.{number_of, status_of, value_of}

pub refused_status : {A : Type 0} (r : Result A Refusal) (e : Refusal) → IsErrAnd r (λ f. f ≡ e) → status_of r ≡ number_of e
refused_status (Ok value) e h = absurd h
refused_status (Err refusal) e h = ap number_of h

-- It gives 0.
pub refused_value : {A : Type 0} (f : A → ℕ) (r : Result A Refusal) (e : Refusal) → IsErrAnd r (λ g. g ≡ e) → 0 ≡ value_of f r
refused_value f (Ok value) e h = absurd h
refused_value f (Err refusal) e h = refl

-- No refusal has the number of success.
pub refusal_not_0 : (e : Refusal) → number_of e ≡ 0 → ⊥
refusal_not_0 NoSuchSet h = absurd (omega arith)
refusal_not_0 WrongInputLen h = absurd (omega arith)
refusal_not_0 MessageTooLong h = absurd (omega arith)
refusal_not_0 WrongOutputLen h = absurd (omega arith)
refusal_not_0 ErrorTooLarge h = absurd (omega arith)
refusal_not_0 WrongPadding h = absurd (omega arith)
refusal_not_0 WrongDigest h = absurd (omega arith)
refusal_not_0 WrongPublicKey h = absurd (omega arith)
refusal_not_0 NoneClear h = absurd (omega arith)
refusal_not_0 WrongCount h = absurd (omega arith)
refusal_not_0 EqualCoins h = absurd (omega arith)
refusal_not_0 PastLimit h = absurd (omega arith)

-- What the statuses of checks need: an answer names it on the function.
pub ruleset refusals = (refused_status, nat_tests)

-- Shared keys (01, "Shared keys"). Rests on Params and hash's SHAKE.
use Rattle.std.specs.Prelude.{List, [], ◌∷◌, ◌++◌, ℕ}
use Rattle.hash.specs.Shake.{shake}
use Rattle.kindi.specs.declared.Params.{Params}

-- The digest d, the message of an encapsulation: SHAKE of the coins and a byte 04, as long as the coins.
unfoldable pub digest : Params → List ℕ → List ℕ
digest P coins = shake P.rate (coins ++ (4 ∷ [])) P.coins

-- The shared key, equally long: SHAKE of the coins then the ciphertext.
unfoldable pub shared_key : Params → List ℕ → List ℕ → List ℕ
shared_key P coins ct = shake P.rate (coins ++ ct) P.coins

-- The status of noise and choose from the lengths: the checks up to 4 in the order of 01's table, as the code makes them.
-- Rests on the definitions of `kindi`.
use Rattle.std.specs.Prelude.{Bool, cond, not, ◌&&◌, ℕ, ◌/◌, ◌%◌, eqb, leb, ltb}
use Rattle.kindi.specs.declared.Params.{Params}
use Rattle.kindi.specs.Params.{is_set, secret_length, padded_length, noise_work}
use Rattle.kindi.specs.Answers.{differs}

unfoldable pub noise_status : ℕ → Params → ℕ → ℕ → ℕ → ℕ → ℕ
noise_status set P sk coins message work =
    cond (not (is_set set)) 1
    (cond (differs sk (secret_length P)) 2
    (cond (differs coins P.coins) 2
    (cond (leb (padded_length P) message) 3
    (cond (ltb work (noise_work P)) 4 0))))

-- A length of 1 to 8 whole coins.
abbrev pub whole_coins : ℕ → ℕ → Bool
whole_coins coins long = eqb (long % coins) 0 && (leb 1 (long / coins) && leb (long / coins) 8)

unfoldable pub choose_status : ℕ → Params → ℕ → ℕ → ℕ → ℕ → ℕ
choose_status set P sk message list work =
    cond (not (is_set set)) 1
    (cond (differs sk (secret_length P)) 2
    (cond (not (whole_coins P.coins list)) 2
    (cond (leb (padded_length P) message) 3
    (cond (ltb work (noise_work P)) 4 0))))

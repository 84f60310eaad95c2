-- The status of decrypt and decaps from the lengths: the checks up to 4 in the order of 01's table, as the code makes them.
-- Rests on the definitions of `kindi`.
use Rattle.std.specs.Prelude.{cond, not, ℕ, ◌-◌, ltb}
use Rattle.kindi.specs.declared.Params.{Params}
use Rattle.kindi.specs.Params.{is_set, secret_length, ciphertext_length, padded_length, decrypt_work}
use Rattle.kindi.specs.Answers.{differs}

unfoldable pub decrypt_status : ℕ → Params → ℕ → ℕ → ℕ → ℕ → ℕ → ℕ
decrypt_status set P sk ct coins message work =
    cond (not (is_set set)) 1
    (cond (differs sk (secret_length P)) 2
    (cond (differs ct (ciphertext_length P)) 2
    (cond (differs coins P.coins) 4
    (cond (differs message (padded_length P - 1)) 4
    (cond (ltb work (decrypt_work P)) 4 0)))))

unfoldable pub decaps_status : ℕ → Params → ℕ → ℕ → ℕ → ℕ → ℕ
decaps_status set P sk ct key work =
    cond (not (is_set set)) 1
    (cond (differs sk (secret_length P)) 2
    (cond (differs ct (ciphertext_length P)) 2
    (cond (differs key P.coins) 4
    (cond (ltb work (decrypt_work P)) 4 0))))

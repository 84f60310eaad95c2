-- The status of encrypt_each from the number of recipients and the lengths: the checks up to 4, in their order, as the code makes
-- them. Rests on the definitions of `kindi`.
use Rattle.std.specs.Prelude.{cond, not, ℕ, ◌*◌, leb, ltb}
use Rattle.kindi.specs.declared.Params.{Params}
use Rattle.kindi.specs.Params.{is_set, public_length, ciphertext_length, padded_length, encrypt_work}
use Rattle.kindi.specs.Answers.{differs, is_count}

unfoldable pub encrypt_each_status : ℕ → Params → ℕ → ℕ → ℕ → ℕ → ℕ → ℕ → ℕ
encrypt_each_status set P count keys list message cts work =
    cond (not (is_set set)) 1
    (cond (not (is_count count)) 13
    (cond (differs keys (count * public_length P)) 2
    (cond (differs list (count * P.coins)) 2
    (cond (leb (padded_length P) message) 3
    (cond (differs cts (count * ciphertext_length P)) 4
    (cond (ltb work (encrypt_work P)) 4 0))))))

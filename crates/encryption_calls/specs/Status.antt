-- The status of each call from its lengths: the checks in the order of 01's table, as the code makes them. The laws in
-- `proofs/Calls.antt` say that it is the number of the call's answer. Rests on the definitions of `kindi`.
use Rattle.std.specs.Prelude.{cond, not, ℕ, leb, ltb}
use Rattle.kindi.specs.declared.Params.{Params}
use Rattle.kindi.specs.Params.{is_set, public_length, secret_length, ciphertext_length, padded_length, keygen_work, encrypt_work}
use Rattle.kindi.specs.Answers.{differs}

unfoldable pub keygen_status : ℕ → Params → ℕ → ℕ → ℕ → ℕ → ℕ → ℕ → ℕ
keygen_status set P μ γ z pk sk work =
    cond (not (is_set set)) 1
    (cond (differs μ P.seed) 2
    (cond (differs γ P.seed) 2
    (cond (differs z P.seed) 2
    (cond (differs pk (public_length P)) 4
    (cond (differs sk (secret_length P)) 4
    (cond (ltb work (keygen_work P)) 4 0))))))

unfoldable pub encrypt_status : ℕ → Params → ℕ → ℕ → ℕ → ℕ → ℕ → ℕ
encrypt_status set P pk coins message ct work =
    cond (not (is_set set)) 1
    (cond (differs pk (public_length P)) 2
    (cond (differs coins P.coins) 2
    (cond (leb (padded_length P) message) 3
    (cond (differs ct (ciphertext_length P)) 4
    (cond (ltb work (encrypt_work P)) 4 0)))))

unfoldable pub encaps_status : ℕ → Params → ℕ → ℕ → ℕ → ℕ → ℕ → ℕ
encaps_status set P pk coins key ct work =
    cond (not (is_set set)) 1
    (cond (differs pk (public_length P)) 2
    (cond (differs coins P.coins) 2
    (cond (differs key P.coins) 4
    (cond (differs ct (ciphertext_length P)) 4
    (cond (ltb work (encrypt_work P)) 4 0)))))

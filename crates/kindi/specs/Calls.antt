-- The calls of the C interface by set number, and what is read off an answer: the returned number, a buffer at exit, the work
-- area at exit. Rests on Answers.
use Rattle.std.specs.Prelude.{◌≡◌, Bool, true, false, cond, not, ◌&&◌, List, ◌++◌, ℕ, ◌-◌, ◌*◌, eqb, leb, length, replicate, get_or}
use Rattle.kindi.specs.declared.Params.{Params}
use Rattle.kindi.specs.Params.{is_set, of_set, public_length, secret_length, ciphertext_length, padded_length, keygen_work, encrypt_work, decrypt_work, noise_work}
use Rattle.kindi.specs.Answers.{Answer, refused, answered, refuse_if, Keys, Shared, Plain, Size, keygen, encrypt, encrypt_each, encaps, decrypt, decaps, noise_of, choose}

-- The returned number: 0 is success.
unfoldable pub number : {A : Type 0} → Answer A → ℕ
number (refused n) = n
number (answered a) = 0

-- A buffer at exit: one of the values, or unchanged by a refusal.
unfoldable pub output : {A : Type 0} → Answer A → (A → List ℕ) → List ℕ → List ℕ
output (refused n) value entry = entry
output (answered a) value entry = value a

-- The work area at exit: unchanged where there is no such set or it is too short, else all zeros.
unfoldable pub work_after : ℕ → ℕ → List ℕ → List ℕ
work_after set need entry = cond (is_set set && leb need (length entry)) (replicate (length entry) 0) entry

-- Refusal 1, then the answer over the set's parameters.
unfoldable pub in_set : {A : Type 0} → ℕ → (Params → Answer A) → Answer A
in_set set answer = refuse_if (not (is_set set)) 1 (answer (of_set set))

-- kindi_keygen, for outputs and a work area of these lengths.
unfoldable pub keygen_call : ℕ → List ℕ → List ℕ → List ℕ → ℕ → ℕ → ℕ → Answer Keys
keygen_call set μ γ z publicRoom secretRoom workRoom =
    in_set set (λ P.
    keygen P (eqb publicRoom (public_length P) && (eqb secretRoom (secret_length P) && leb (keygen_work P) workRoom)) μ γ z)

-- kindi_encrypt.
unfoldable pub encrypt_call : ℕ → List ℕ → List ℕ → List ℕ → ℕ → ℕ → Answer (List ℕ)
encrypt_call set pk coins message room workRoom =
    in_set set (λ P. encrypt P (eqb room (ciphertext_length P) && leb (encrypt_work P) workRoom) pk coins message)

-- kindi_encrypt_each; the work area is as long as that of kindi_encrypt, whatever the number of recipients.
unfoldable pub encrypt_each_call : ℕ → ℕ → List ℕ → List ℕ → List ℕ → ℕ → ℕ → Answer (List ℕ)
encrypt_each_call set count keys list message room workRoom =
    in_set set (λ P.
    encrypt_each P (eqb room (count * ciphertext_length P) && leb (encrypt_work P) workRoom) count keys list message)

-- kindi_encaps.
unfoldable pub encaps_call : ℕ → List ℕ → List ℕ → ℕ → ℕ → ℕ → Answer Shared
encaps_call set pk coins keyRoom room workRoom =
    in_set set (λ P. encaps P (eqb keyRoom P.coins && (eqb room (ciphertext_length P) && leb (encrypt_work P) workRoom)) pk coins)

-- kindi_decrypt; the message output has one byte less than the padded message.
unfoldable pub decrypt_call : ℕ → List ℕ → List ℕ → ℕ → ℕ → ℕ → Answer Plain
decrypt_call set sk ct coinsRoom messageRoom workRoom =
    in_set set (λ P.
    decrypt P (eqb coinsRoom P.coins && (eqb messageRoom (padded_length P - 1) && leb (decrypt_work P) workRoom)) sk ct)

-- A message output: the message, then zeros.
unfoldable pub message_output : ℕ → List ℕ → List ℕ
message_output room message = message ++ replicate (room - length message) 0

-- kindi_decaps.
unfoldable pub decaps_call : ℕ → List ℕ → List ℕ → ℕ → ℕ → Answer (List ℕ)
decaps_call set sk ct keyRoom workRoom = in_set set (λ P. decaps P (eqb keyRoom P.coins && leb (decrypt_work P) workRoom) sk ct)

-- kindi_noise.
unfoldable pub noise_call : ℕ → List ℕ → List ℕ → List ℕ → ℕ → Answer Size
noise_call set sk coins message workRoom = in_set set (λ P. noise_of P (leb (noise_work P) workRoom) sk coins message)

-- kindi_choose.
unfoldable pub choose_call : ℕ → List ℕ → List ℕ → List ℕ → ℕ → Answer (List Bool)
choose_call set sk message list workRoom = in_set set (λ P. choose P (leb (noise_work P) workRoom) sk message list)

-- A returned length, flag or largest value: one of the values, or 0 after a refusal.
unfoldable pub returned : {A : Type 0} → Answer A → (A → ℕ) → ℕ
returned (refused n) value = 0
returned (answered a) value = value a

-- A returned place: 0 after a refusal, else that of some clear coins, whichever (01 leaves it free).
unfoldable pub Place : Answer (List Bool) → ℕ → Type 0
Place (refused n) place = place ≡ 0
Place (answered places) place = get_or places place false ≡ true

-- The calls over the bodies of records (01, "Records on standard input"): what the call of each kind answers to a body. Rests on the
-- answers of `kindi`.
use Rattle.std.specs.Prelude.{Bool, true, cond, ◌||◌, List, [], ◌++◌, ℕ, ◌+◌, ◌-◌, ◌*◌, eqb, ltb, length, take, drop}
use Rattle.kindi.specs.declared.Params.{Params}
use Rattle.kindi.specs.Params.{public_length, secret_length, ciphertext_length, padded_length}
use Rattle.kindi.specs.Answers.{Answer, answered, refuse_if, then, differs, keygen, encrypt, encaps, decrypt, decaps}
use Rattle.kindi.specs.Calls.{in_set}

-- An output: its two parts, each in a buffer of its own, and how many zeros follow the second in its buffer.
pub record Parts : Type 0 where
  pub first : List ℕ
  pub second : List ℕ
  pub zeros : ℕ

-- An output of one part, and one of two.
abbrev pub one_part : List ℕ → Parts
one_part first = record { first = first; second = []; zeros = 0 }

abbrev pub two_parts : List ℕ → List ℕ → Parts
two_parts first second = record { first = first; second = second; zeros = 0 }

-- Outputs have their exact lengths, and the work area is long enough: `true`.

-- 1, keygen (01: make keys) of μ, γ, z: the public then the secret key.
unfoldable pub keygen_body : Params → List ℕ → Answer Parts
keygen_body P body =
    then (keygen P true (take P.seed body) (take P.seed (drop P.seed body)) (drop (2 * P.seed) body))
    (λ keys. answered (two_parts keys.public_key keys.secret_key))

-- 2, encrypt (01: seal) of a public key, coins and a message, which is the rest of the body: the ciphertext.
unfoldable pub encrypt_body : Params → List ℕ → Answer Parts
encrypt_body P body =
    then (encrypt P true (take (public_length P) body) (take P.coins (drop (public_length P) body)) (drop (public_length P + P.coins) body))
    (λ ct. answered (one_part ct))

-- 3, decrypt (01: open) of a secret key and a ciphertext: the coins then the message, in an output of the padded length less 1.
unfoldable pub decrypt_body : Params → List ℕ → Answer Parts
decrypt_body P body =
    then (decrypt P true (take (secret_length P) body) (drop (secret_length P) body))
    (λ opened. answered (record {
      first = opened.coins;
      second = opened.message;
      zeros = padded_length P - 1 - length opened.message;
    }))

-- 4, encaps (01: seal a shared key) of a public key and coins: the key then the ciphertext.
unfoldable pub encaps_body : Params → List ℕ → Answer Parts
encaps_body P body =
    then (encaps P true (take (public_length P) body) (drop (public_length P) body))
    (λ shared. answered (two_parts shared.key shared.ciphertext))

-- 5, decaps (01: open a shared key) of a secret key and a ciphertext: the key.
unfoldable pub decaps_body : Params → List ℕ → Answer Parts
decaps_body P body = then (decaps P true (take (secret_length P) body) (drop (secret_length P) body)) (λ key. answered (one_part key))

-- The call that a kind from 1 to 5 names; the header refuses every other.
unfoldable pub kind_body : ℕ → Params → List ℕ → Answer Parts
kind_body kind =
    cond (eqb kind 1) keygen_body
    (cond (eqb kind 2) encrypt_body
    (cond (eqb kind 3) decrypt_body
    (cond (eqb kind 4) encaps_body decaps_body)))

-- The bytes that a kind's body has, in kind 2 without the message.
unfoldable pub body_bytes : ℕ → Params → ℕ
body_bytes kind P =
    cond (eqb kind 1) (3 * P.seed)
    (cond (eqb kind 2 || eqb kind 4) (public_length P + P.coins) (secret_length P + ciphertext_length P))

-- In kind 2 a body shorter than key and coins is 2; other kinds want the exact length.
unfoldable pub wrong_length : ℕ → Params → ℕ → Bool
wrong_length kind P bytes = cond (eqb kind 2) (ltb bytes (body_bytes kind P)) (differs bytes (body_bytes kind P))

-- What a record with a whole header yields: refusal 1, then 2 for the body's length, then the call's answer.
unfoldable pub record_parts : ℕ → ℕ → List ℕ → Answer Parts
record_parts kind set body = in_set set (λ P. refuse_if (wrong_length kind P (length body)) 2 (kind_body kind P body))

-- The answer to it: the two parts of the output, joined.
unfoldable pub joined : Answer Parts → Answer (List ℕ)
joined answer = then answer (λ parts. answered (parts.first ++ parts.second))

unfoldable pub record_answer : ℕ → ℕ → List ℕ → Answer (List ℕ)
record_answer kind set body = joined (record_parts kind set body)

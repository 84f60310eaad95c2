-- Answers (01, "When a call is turned down"): a refusal with its number, or success with values; each call as a chain of checks
-- in the order 1, 13, 2, 3, 4, 14, 5, 6, 7, 8, 9, which is 01's with 02's numbers at their places, over any parameters. `room` says
-- that every output has its exact length and the work area is long enough. 15 stands alone. Rests on the definitions of the
-- scheme.
use Rattle.std.specs.Prelude.{Bool, true, false, cond, not, ◌&&◌, ◌||◌, List, [], ◌∷◌, ℕ, ◌+◌, ◌*◌, ◌/◌, ◌%◌, eqb, leb, ltb, length, take, drop}
use Rattle.keccak.specs.Lists.{tabulate}
use Rattle.hash.specs.Shake.{shake_from}
use Rattle.ring.specs.Integers.{largest}
use Rattle.kindi.specs.declared.Params.{Params}
use Rattle.kindi.specs.Params.{public_length, secret_length, ciphertext_length, padded_length}
use Rattle.kindi.specs.Keys.{joined, public_key, secret_key, public_part, secret_seed, matrix_seed}
use Rattle.kindi.specs.Encrypt.{padded, ciphertext}
use Rattle.kindi.specs.Decrypt.{rounded_coins, remainders, errors_fit, unmasked, Ending, blank, marked, other, ending}
use Rattle.kindi.specs.Kem.{digest, shared_key}
use Rattle.kindi.specs.Noise.{noises, clear}

-- A refusal number, or values.
pub data Answer (A : Type 0) : Type 0 where
  refused : ℕ → Answer A
  answered : A → Answer A

-- Refused with this number where the check fails; else what comes next.
unfoldable pub refuse_if : {A : Type 0} → Bool → ℕ → Answer A → Answer A
refuse_if bad number next = cond bad (refused number) next

-- What comes after success; a refusal stays.
unfoldable pub then : {A B : Type 0} → Answer A → (A → Answer B) → Answer B
then (refused number) next = refused number
then (answered a) next = next a

-- The length is another one.
abbrev pub differs : ℕ → ℕ → Bool
differs a b = not (eqb a b)

-- Two lists are the same.
unfoldable pub same : List ℕ → List ℕ → Bool
same [] [] = true
same [] (y ∷ ys) = false
same (x ∷ xs) [] = false
same (x ∷ xs) (y ∷ ys) = eqb x y && same xs ys

-- At least one of the tests holds.
unfoldable pub some : List Bool → Bool
some [] = false
some (b ∷ bs) = b || some bs

-- Part number i of a string of parts of one length, one after another.
abbrev pub part_at : ℕ → List ℕ → ℕ → List ℕ
part_at long string i = take long (drop (i * long) string)

-- Public key, coins and ciphertext number i of a list of them.
unfoldable pub key_at : Params → List ℕ → ℕ → List ℕ
key_at P keys i = part_at (public_length P) keys i

unfoldable pub coins_at : Params → List ℕ → ℕ → List ℕ
coins_at P list i = part_at P.coins list i

unfoldable pub ciphertext_at : Params → List ℕ → ℕ → List ℕ
ciphertext_at P cts i = part_at (ciphertext_length P) cts i

-- What the calls yield.
pub record Keys : Type 0 where
  pub public_key : List ℕ
  pub secret_key : List ℕ

pub record Plain : Type 0 where
  pub coins : List ℕ
  pub message : List ℕ

pub record Shared : Type 0 where
  pub key : List ℕ
  pub ciphertext : List ℕ

pub record Size : Type 0 where
  pub is_clear : Bool
  pub largest : ℕ

-- keygen: refusals 2 and 4.
unfoldable pub keygen : Params → Bool → List ℕ → List ℕ → List ℕ → Answer Keys
keygen P room μ γ z =
    refuse_if (differs (length μ) P.seed) 2
    (refuse_if (differs (length γ) P.seed) 2
    (refuse_if (differs (length z) P.seed) 2
    (refuse_if (not room) 4
    (answered (record { public_key = public_key P μ γ; secret_key = secret_key P μ γ z })))))

-- encrypt: refusals 2, 3 and 4.
unfoldable pub encrypt : Params → Bool → List ℕ → List ℕ → List ℕ → Answer (List ℕ)
encrypt P room pk coins message =
    refuse_if (differs (length pk) (public_length P)) 2
    (refuse_if (differs (length coins) P.coins) 2
    (refuse_if (leb (padded_length P) (length message)) 3
    (refuse_if (not room) 4
    (answered (ciphertext P pk coins message)))))

-- A number of recipients (02, No. 1: ovens): 1 to 12.
abbrev pub is_count : ℕ → Bool
is_count count = leb 1 count && leb count 12

-- Two of the recipients have equal coins: those of some place j and of some place i before it.
unfoldable pub equal_coins : Params → ℕ → List ℕ → Bool
equal_coins P count list = some (tabulate count (λ j. some (tabulate j (λ i. same (coins_at P list i) (coins_at P list j)))))

-- The ciphertexts of one message for the recipients, in the order of their keys.
unfoldable pub ciphertexts : Params → ℕ → List ℕ → List ℕ → List ℕ → List ℕ
ciphertexts P count keys list message = joined count (λ i. ciphertext P (key_at P keys i) (coins_at P list i) message)

-- encrypt_each (02, No. 1): refusals 13, 2, 3, 4 and 14.
unfoldable pub encrypt_each : Params → Bool → ℕ → List ℕ → List ℕ → List ℕ → Answer (List ℕ)
encrypt_each P room count keys list message =
    refuse_if (not (is_count count)) 13
    (refuse_if (differs (length keys) (count * public_length P)) 2
    (refuse_if (differs (length list) (count * P.coins)) 2
    (refuse_if (leb (padded_length P) (length message)) 3
    (refuse_if (not room) 4
    (refuse_if (equal_coins P count list) 14
    (answered (ciphertexts P count keys list message)))))))

-- encaps: refusals 2 and 4.
unfoldable pub encaps : Params → Bool → List ℕ → List ℕ → Answer Shared
encaps P room pk coins =
    let ct = ciphertext P pk coins (digest P coins) in
    refuse_if (differs (length pk) (public_length P)) 2
    (refuse_if (differs (length coins) P.coins) 2
    (refuse_if (not room) 4
    (answered (record { key = shared_key P coins ct; ciphertext = ct }))))

-- The recovered coins (01: the coins found by rounding) of a secret key and a ciphertext of their lengths; there are none else.
unfoldable pub recovered_coins : Params → List ℕ → List ℕ → Answer (List ℕ)
recovered_coins P sk ct =
    refuse_if (differs (length sk) (secret_length P)) 2
    (refuse_if (differs (length ct) (ciphertext_length P)) 2
    (answered (rounded_coins P (secret_seed P sk) ct)))

-- The message before the last non-zero byte 01: refusal 6.
unfoldable pub plain : List ℕ → Ending → Answer Plain
plain coins blank = refused 6
plain coins (marked message) = answered (record { coins = coins; message = message })
plain coins other = refused 6

-- decrypt: refusals 2, 4, 5 and 6.
unfoldable pub decrypt : Params → Bool → List ℕ → List ℕ → Answer Plain
decrypt P room sk ct =
    then (recovered_coins P sk ct) (λ coins.
    refuse_if (not room) 4
    (refuse_if (not (errors_fit P.p (remainders P (public_part P sk) coins ct))) 5
    (plain coins (ending (unmasked P (public_part P sk) coins ct)))))

-- decaps: refusals 2, 4, 5 and 7; the padded message has to be that of the digest.
unfoldable pub decaps : Params → Bool → List ℕ → List ℕ → Answer (List ℕ)
decaps P room sk ct =
    then (recovered_coins P sk ct) (λ coins.
    refuse_if (not room) 4
    (refuse_if (not (errors_fit P.p (remainders P (public_part P sk) coins ct))) 5
    (refuse_if (not (same (unmasked P (public_part P sk) coins ct) (padded P (digest P coins)))) 7
    (answered (shared_key P coins ct)))))

-- The stored public key of a secret key is what its μ and γ give.
unfoldable pub agrees : Params → List ℕ → Bool
agrees P sk = same (public_part P sk) (public_key P (matrix_seed P (public_part P sk)) (secret_seed P sk))

-- Whether coins and a message are clear under a secret key.
unfoldable pub clear_under : Params → List ℕ → List ℕ → List ℕ → Bool
clear_under P sk coins message = clear P (matrix_seed P (public_part P sk)) (secret_seed P sk) coins message

-- The largest absolute value of their noise.
unfoldable pub largest_under : Params → List ℕ → List ℕ → List ℕ → ℕ
largest_under P sk coins message = largest (noises P (matrix_seed P (public_part P sk)) (secret_seed P sk) coins message)

-- noise: refusals 2, 3, 4 and 8.
unfoldable pub noise_of : Params → Bool → List ℕ → List ℕ → List ℕ → Answer Size
noise_of P room sk coins message =
    refuse_if (differs (length sk) (secret_length P)) 2
    (refuse_if (differs (length coins) P.coins) 2
    (refuse_if (leb (padded_length P) (length message)) 3
    (refuse_if (not room) 4
    (refuse_if (not (agrees P sk)) 8
    (answered (record { is_clear = clear_under P sk coins message; largest = largest_under P sk coins message }))))))

-- How many coins a list has.
unfoldable pub coins_count : Params → List ℕ → ℕ
coins_count P list = length list / P.coins

-- A list of 1 to 8 coins, whole.
unfoldable pub is_list : Params → List ℕ → Bool
is_list P list = eqb (length list % P.coins) 0 && (leb 1 (coins_count P list) && leb (coins_count P list) 8)

-- Which of the listed coins are clear with the message.
unfoldable pub clear_places : Params → List ℕ → List ℕ → List ℕ → List Bool
clear_places P sk message list = tabulate (coins_count P list) (λ i. clear_under P sk (coins_at P list i) message)

-- choose: refusals 2, 3, 4, 8 and 9; on success the place returned is any of those that are clear.
unfoldable pub choose : Params → Bool → List ℕ → List ℕ → List ℕ → Answer (List Bool)
choose P room sk message list =
    refuse_if (differs (length sk) (secret_length P)) 2
    (refuse_if (not (is_list P list)) 2
    (refuse_if (leb (padded_length P) (length message)) 3
    (refuse_if (not room) 4
    (refuse_if (not (agrees P sk)) 8
    (refuse_if (not (some (clear_places P sk message list))) 9
    (answered (clear_places P sk message list)))))))

-- SHAKE from a place (02, No. 2): refusal 15, the only one.
unfoldable pub shake_bytes : ℕ → List ℕ → ℕ → ℕ → Answer (List ℕ)
shake_bytes rate input place long = refuse_if (ltb 1048576 (place + long)) 15 (answered (shake_from rate input place long))

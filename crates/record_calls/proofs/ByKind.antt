-- Each kind: its record gives what its call leaves, where the checks before the call fail and where they pass. Assumes nothing.
use mathlib.Core.Path.{◌≡◌, refl, sym, ap, ◌∙◌}
use mathlib.Core.Bool.{true, not}
use mathlib.Core.List.{List, ◌++◌}
use Prim.Native.Nat.{ℕ, ◌+◌, ◌-◌, ◌*◌, ◌≤◌}
use native.Mathlib.Omega.{arith}
use borrow.Author.Tests.{ne_eqb}
use lib.Dec.{ltb, leb}
use lib.ListN.{length, take, drop, replicate, length-append}
use lib.Seq.{length-take-le}
use Rattle.keccak.proofs.Parts.{take_rest}
use Rattle.kindi.specs.declared.Params.{Params}
use Rattle.kindi.specs.Params.{Parameters, public_length, secret_length, ciphertext_length, padded_length, keygen_work, encrypt_work, decrypt_work}
use Rattle.kindi.specs.Answers.{Answer, refused, answered, differs, Keys, Plain, Shared, keygen, encrypt, encaps, decrypt, decaps}
use Rattle.kindi.specs.Calls.{number, output, returned, message_output}
use Rattle.kindi.proofs.Called.{keygen_called, encrypt_called, encaps_called, decrypt_called, decaps_called}
use Rattle.kindi.proofs.Called.{keygen_proper, encrypt_proper, encaps_proper, decrypt_proper, decaps_proper}
use Rattle.calls.proofs.Checked.{given_returned}
use Rattle.calls.proofs.Ends.{too_short}
use Rattle.encryption_calls.specs.Exits.{KeygenExit, EncryptExit, EncapsExit}
use Rattle.decryption_calls.specs.Exits.{DecryptExit, DecapsExit}
use Rattle.record_calls.specs.Bodies.{one_part, two_parts, keygen_body, encrypt_body, decrypt_body, encaps_body, decaps_body, kind_body}
use Rattle.record_calls.specs.Bodies.{body_bytes, wrong_length, record_parts}
use Rattle.record_calls.specs.Outputs.{Outcome, OutcomeOf, work_bytes, record_work, AnswerExit}
use Rattle.record_calls.proofs.Outcomes.{Lent, lent_length, lent_after, no_zeros, untouched, wiped_front, gives, early, early_gives, Ready, ready_gives}

-- ---- lent parts

-- The front of a buffer, lent at the length that the call asks for.
asked : (a : ℕ) (buffer : List ℕ) {n : ℕ} → a ≡ n → a ≤ length buffer → length (take a buffer) ≡ n
asked a buffer e fits = length-take-le a buffer fits ∙ e

-- A work area that is lent so is long enough.
enough : (a : ℕ) (buffer : List ℕ) {n : ℕ} → a ≡ n → a ≤ length buffer → n ≤ length (take a buffer)
enough a buffer e fits = omega (arith, asked a buffer e fits)

-- ---- 1, keygen

-- A check before the call fails: the record is refused with its status.
pub keygen-early : (body : List ℕ) {set status m n : ℕ} {P : Params} {first second work : List ℕ} {r : Outcome}
    → Parameters set P → status ≡ early set (differs (length body) (3 * P.seed)) → (status ≡ 0 → ⊥) → OutcomeOf status m n r
    → AnswerExit 1 set body first second work r first second work
unfolding wrong_length body_bytes
keygen-early body p is wrong o = early_gives 1 body p is wrong o

-- The checks pass: the record gives what the call leaves; a, b and w are the lengths of the keys and of the work area.
pub keygen_gives : {set a b w status : ℕ} {P : Params} {body first second work pk' sk' work' : List ℕ} {r : Outcome}
    → Ready set P differs (3 * P.seed) body first second work
    → a ≡ public_length P → b ≡ secret_length P → w ≡ keygen_work P
    → KeygenExit set (take P.seed body) (take (2 * P.seed - P.seed) (drop P.seed body))
    (take (length body - 2 * P.seed) (drop (2 * P.seed) body)) (take a first) (take b second) (take w work) status pk' sk' work'
    → OutcomeOf status a b r → length pk' ≡ length (take a first) → length sk' ≡ length (take b second)
    → AnswerExit 1 set body first second work r (pk' ++ drop a first) (sk' ++ drop b second) (work' ++ drop w work)
unfolding keygen_body kind_body wrong_length body_bytes work_bytes
keygen_gives {set} {a} {b} {w} {P = P} {body} {first} {second} {work} {pk'} {sk'} ok ea eb ew exit o kept-pk kept-sk =
    let μ = take P.seed body in
    let γ = take P.seed (drop P.seed body) in
    let z = drop (2 * P.seed) body in
    let fa : a ≤ length first = omega arith in
    let fb : b ≤ length second = omega arith in
    let fw : w ≤ length work = omega arith in
    let once : 2 * P.seed - P.seed ≡ P.seed = omega arith in
    let left = rw (once, take_rest (2 * P.seed) body) at exit in
    let called = (rw (← ok.are) at (keygen_called set ok.there)) μ γ z _ _ _ (asked a first ea fa) (asked b second eb fb)
    (enough w work ew fw) in
    let pk : Lent _ (λ (keys : Keys). keys.public_key) a first pk' = record { fits = fa; kept = kept-pk; is = left.public } in
    let sk : Lent _ (λ (keys : Keys). keys.secret_key) b second sk' = record { fits = fb; kept = kept-sk; is = left.secret } in
    ready_gives 1 ok refl
    (gives (keygen P true μ γ z) (λ keys. two_parts keys.public_key keys.secret_key) (keygen_proper P true μ γ z)
    (left.returned ∙ ap number called) o (omega arith) (omega arith)
    (λ v e. lent_length pk (called ∙ e)) (λ v e. lent_length sk (called ∙ e))
    (lent_after pk _ called) (lent_after sk _ called ∙ no_zeros _ _ second)
    (wiped_front set w _ work ok.there ew fw (rw (← ok.are) at left.wiped)))

-- ---- 2, encrypt

-- A check before the call fails; s is the length of the public key.
pub encrypt-early : (body : List ℕ) {set s status m n : ℕ} {P : Params} {first second work : List ℕ} {r : Outcome}
    → Parameters set P → s ≡ public_length P → status ≡ early set (not (leb (s + P.coins) (length body))) → (status ≡ 0 → ⊥)
    → OutcomeOf status m n r → AnswerExit 2 set body first second work r first second work
unfolding wrong_length body_bytes
encrypt-early body {s = s} {P = P} p es is wrong o =
    let short = rw (too_short (s + P.coins) (length body)) at is in
    early_gives 2 body p (rw es at short) wrong o

-- The checks pass: the record gives what the call leaves; s, a and w are the lengths of the public key, the ciphertext and the work area.
pub encrypt_gives : {set s a w status : ℕ} {P : Params} {body first second work ct' work' : List ℕ} {r : Outcome}
    → Ready set P ltb (s + P.coins) body first second work
    → s ≡ public_length P → a ≡ ciphertext_length P → w ≡ encrypt_work P
    → EncryptExit set (take s body) (take (s + P.coins - s) (drop s body))
    (take (length body - (s + P.coins)) (drop (s + P.coins) body)) (take a first) (take w work) status ct' work'
    → OutcomeOf status a 0 r → length ct' ≡ length (take a first)
    → AnswerExit 2 set body first second work r (ct' ++ drop a first) second (work' ++ drop w work)
unfolding encrypt_body kind_body wrong_length body_bytes work_bytes
encrypt_gives {set} {s} {a} {w} {P = P} {body} {first} {second} {work} {ct'} ok es ea ew exit o kept-ct =
    let pk = take (public_length P) body in
    let coins = take P.coins (drop (public_length P) body) in
    let message = drop (public_length P + P.coins) body in
    let fa : a ≤ length first = omega arith in
    let fw : w ≤ length work = omega arith in
    let once : public_length P + P.coins - public_length P ≡ P.coins = omega arith in
    let left = rw (es, once, take_rest (public_length P + P.coins) body) at exit in
    let called = (rw (← ok.are) at (encrypt_called set ok.there)) pk coins message _ _ (asked a first ea fa)
    (enough w work ew fw) in
    let ct : Lent _ (λ c. c) a first ct' = record { fits = fa; kept = kept-ct; is = left.ciphertext } in
    ready_gives 2 (rw es at ok) refl
    (gives (encrypt P true pk coins message) one_part (encrypt_proper P true pk coins message)
    (left.returned ∙ ap number called) o (omega arith) (omega arith)
    (λ v e. lent_length ct (called ∙ e)) (λ v e. refl) (lent_after ct _ called) (untouched _ second)
    (wiped_front set w _ work ok.there ew fw (rw (← ok.are) at left.wiped)))

-- ---- 3, decrypt

-- The length of a message that is in its output.
message_fits : (answer : Answer Plain) (room m : ℕ) (entry : List ℕ) {exit : List ℕ} {len : ℕ}
    → len ≡ returned answer (λ opened. length opened.message)
    → exit ≡ output answer (λ opened. message_output room opened.message) entry → length exit ≤ m → len ≤ m
unfolding returned output message_output
message_fits (refused n) room m entry is out h = omega (arith, is)
message_fits (answered v) room m entry is out h =
    omega (arith, ap length out, length-append v.message (replicate (room - length v.message) 0))

-- It is the message's, where the call answers v.
message_length : {call : Answer Plain} {len : ℕ} {v : Plain} → len ≡ returned call (λ opened. length opened.message)
    → call ≡ answered v → len ≡ length v.message
message_length is same = is ∙ sym (given_returned (λ (opened : Plain). length opened.message) same)

-- A check before the call fails; s and t are the lengths of the secret key and of the ciphertext.
pub decrypt-early : (body : List ℕ) {set s t status m n : ℕ} {P : Params} {first second work : List ℕ} {r : Outcome}
    → Parameters set P → s ≡ secret_length P → t ≡ ciphertext_length P
    → status ≡ early set (differs (length body) (s + t)) → (status ≡ 0 → ⊥) → OutcomeOf status m n r
    → AnswerExit 3 set body first second work r first second work
unfolding wrong_length body_bytes
decrypt-early body p es et is wrong o = early_gives 3 body p (rw (es, et) at is) wrong o

-- The checks pass: the record gives what the call leaves; b is the length of the padded message, of which the message is shorter.
pub decrypt_gives : {set s t b w status len' : ℕ} {P : Params} {body first second work coins' message' work' : List ℕ} {r : Outcome}
    → Ready set P differs (s + t) body first second work
    → s ≡ secret_length P → t ≡ ciphertext_length P → b ≡ padded_length P → w ≡ decrypt_work P
    → DecryptExit set (take s body) (take (length body - s) (drop s body)) (take P.coins first) (take (b - 1) second) (take w work)
    status coins' message' len' work'
    → OutcomeOf status P.coins len' r
    → length coins' ≡ length (take P.coins first) → length message' ≡ length (take (b - 1) second)
    → AnswerExit 3 set body first second work r (coins' ++ drop P.coins first) (message' ++ drop (b - 1) second) (work' ++ drop w work)
unfolding decrypt_body kind_body wrong_length body_bytes work_bytes message_output
decrypt_gives {set} {s} {t} {b} {w} {P = P} {body} {first} {second} {work} {coins'} {message'} ok es et eb ew exit o kept-c kept-m =
    let sk = take (secret_length P) body in
    let ct = drop (secret_length P) body in
    let fa : P.coins ≤ length first = omega arith in
    let fb : b - 1 ≤ length second = omega arith in
    let fw : w ≤ length work = omega arith in
    let left = rw (es, take_rest (secret_length P) body) at exit in
    let room : length (take (b - 1) second) ≡ padded_length P - 1 = asked (b - 1) second (ap (λ (n : ℕ). n - 1) eb) fb in
    let called = (rw (← ok.are) at (decrypt_called set ok.there)) sk ct _ _ _ (asked P.coins first refl fa) room
    (enough w work ew fw) in
    let coins : Lent _ (λ (opened : Plain). opened.coins) P.coins first coins' = record { fits = fa; kept = kept-c; is = left.coins_are } in
    let message : Lent _ (λ (opened : Plain). message_output (length (take (b - 1) second)) opened.message) (b - 1) second message' =
    record { fits = fb; kept = kept-m; is = left.message_is } in
    ready_gives 3 (rw (es, et) at ok) refl
    (gives (decrypt P true sk ct)
    (λ opened. record {
      first = opened.coins;
      second = opened.message;
      zeros = padded_length P - 1 - length opened.message;
    })
    (decrypt_proper P true sk ct) (left.number_is ∙ ap number called) o (omega arith)
    (message_fits _ _ 5120 _ left.length_is left.message_is (omega (arith, kept-m, room)))
    (λ v e. lent_length coins (called ∙ e)) (λ v e. message_length left.length_is (called ∙ e))
    (lent_after coins _ called) (rw room at (lent_after message _ called))
    (wiped_front set w _ work ok.there ew fw (rw (← ok.are) at left.wiped)))

-- ---- 4, encaps

-- A check before the call fails; s is the length of the public key.
pub encaps-early : (body : List ℕ) {set s status m n : ℕ} {P : Params} {first second work : List ℕ} {r : Outcome}
    → Parameters set P → s ≡ public_length P → status ≡ early set (differs (length body) (s + P.coins)) → (status ≡ 0 → ⊥)
    → OutcomeOf status m n r → AnswerExit 4 set body first second work r first second work
unfolding wrong_length body_bytes
encaps-early body p es is wrong o = early_gives 4 body p (rw es at is) wrong o

-- The checks pass: the record gives what the call leaves; s, b and w are the lengths of the public key, the ciphertext and the work area.
pub encaps_gives : {set s b w status : ℕ} {P : Params} {body first second work key' ct' work' : List ℕ} {r : Outcome}
    → Ready set P differs (s + P.coins) body first second work
    → s ≡ public_length P → b ≡ ciphertext_length P → w ≡ encrypt_work P
    → EncapsExit set (take s body) (take (length body - s) (drop s body)) (take P.coins first) (take b second) (take w work)
    status key' ct' work'
    → OutcomeOf status P.coins b r → length key' ≡ length (take P.coins first) → length ct' ≡ length (take b second)
    → AnswerExit 4 set body first second work r (key' ++ drop P.coins first) (ct' ++ drop b second) (work' ++ drop w work)
unfolding encaps_body kind_body wrong_length body_bytes work_bytes
encaps_gives {set} {s} {b} {w} {P = P} {body} {first} {second} {work} {key'} {ct'} ok es eb ew exit o kept-key kept-ct =
    let pk = take (public_length P) body in
    let coins = drop (public_length P) body in
    let fa : P.coins ≤ length first = omega arith in
    let fb : b ≤ length second = omega arith in
    let fw : w ≤ length work = omega arith in
    let left = rw (es, take_rest (public_length P) body) at exit in
    let called = (rw (← ok.are) at (encaps_called set ok.there)) pk coins _ _ _ (asked P.coins first refl fa)
    (asked b second eb fb) (enough w work ew fw) in
    let key : Lent _ (λ (shared : Shared). shared.key) P.coins first key' = record { fits = fa; kept = kept-key; is = left.key_is } in
    let ct : Lent _ (λ (shared : Shared). shared.ciphertext) b second ct' = record { fits = fb; kept = kept-ct; is = left.ciphertext } in
    ready_gives 4 (rw es at ok) refl
    (gives (encaps P true pk coins) (λ shared. two_parts shared.key shared.ciphertext) (encaps_proper P true pk coins)
    (left.returned ∙ ap number called) o (omega arith) (omega arith)
    (λ v e. lent_length key (called ∙ e)) (λ v e. lent_length ct (called ∙ e))
    (lent_after key _ called) (lent_after ct _ called ∙ no_zeros _ _ second)
    (wiped_front set w _ work ok.there ew fw (rw (← ok.are) at left.wiped)))

-- ---- 5, decaps

-- A check before the call fails; s and t are the lengths of the secret key and of the ciphertext.
pub decaps-early : (body : List ℕ) {set s t status m n : ℕ} {P : Params} {first second work : List ℕ} {r : Outcome}
    → Parameters set P → s ≡ secret_length P → t ≡ ciphertext_length P
    → status ≡ early set (differs (length body) (s + t)) → (status ≡ 0 → ⊥) → OutcomeOf status m n r
    → AnswerExit 5 set body first second work r first second work
unfolding wrong_length body_bytes
decaps-early body p es et is wrong o = early_gives 5 body p (rw (es, et) at is) wrong o

-- The checks pass: the record gives what the call leaves; s, t and w are the lengths of the secret key, the ciphertext and the work area.
pub decaps_gives : {set s t w status : ℕ} {P : Params} {body first second work key' work' : List ℕ} {r : Outcome}
    → Ready set P differs (s + t) body first second work
    → s ≡ secret_length P → t ≡ ciphertext_length P → w ≡ decrypt_work P
    → DecapsExit set (take s body) (take (length body - s) (drop s body)) (take P.coins first) (take w work) status key' work'
    → OutcomeOf status P.coins 0 r → length key' ≡ length (take P.coins first)
    → AnswerExit 5 set body first second work r (key' ++ drop P.coins first) second (work' ++ drop w work)
unfolding decaps_body kind_body wrong_length body_bytes work_bytes
decaps_gives {set} {s} {t} {w} {P = P} {body} {first} {second} {work} {key'} ok es et ew exit o kept-key =
    let sk = take (secret_length P) body in
    let ct = drop (secret_length P) body in
    let fa : P.coins ≤ length first = omega arith in
    let fw : w ≤ length work = omega arith in
    let left = rw (es, take_rest (secret_length P) body) at exit in
    let called = (rw (← ok.are) at (decaps_called set ok.there)) sk ct _ _ (asked P.coins first refl fa)
    (enough w work ew fw) in
    let key : Lent _ (λ k. k) P.coins first key' = record { fits = fa; kept = kept-key; is = left.key_is } in
    ready_gives 5 (rw (es, et) at ok) refl
    (gives (decaps P true sk ct) one_part (decaps_proper P true sk ct)
    (left.number_is ∙ ap number called) o (omega arith) (omega arith)
    (λ v e. lent_length key (called ∙ e)) (λ v e. refl) (lent_after key _ called) (untouched _ second)
    (wiped_front set w _ work ok.there ew fw (rw (← ok.are) at left.wiped)))

-- ---- the call that a kind names

module _ (kind set : ℕ) (body first second work : List ℕ) (r : Outcome) (first' second' work' : List ℕ) where
  -- A kind that is not 1 to 4 is 5.
  pub kind_5 : (kind ≡ 1 → ⊥) → (kind ≡ 2 → ⊥) → (kind ≡ 3 → ⊥) → (kind ≡ 4 → ⊥)
      → AnswerExit 5 set body first second work r first' second' work' → AnswerExit kind set body first second work r first' second' work'
  unfolding record_parts record_work kind_body wrong_length body_bytes work_bytes
  kind_5 n1 n2 n3 n4 g = rw (ne_eqb kind 1 n1, ne_eqb kind 2 n2, ne_eqb kind 3 n3, ne_eqb kind 4 n4) g

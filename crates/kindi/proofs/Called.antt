-- The running calls: a call of a set that there is, with outputs of their exact lengths and a work area that is long enough,
-- answers what the theorems speak of; and a call that returns 0 has answered. Assumes nothing.
use mathlib.Core.Path.{◌≡◌, refl, ap, ◌∙◌}
use mathlib.Core.Bool.{Bool, true, false, not, ◌&&◌}
use mathlib.Core.List.{List}
use Prim.Native.Nat.{ℕ, ◌-◌, ◌*◌, ◌≤◌, ◌<◌}
use native.Mathlib.Omega.{arith}
use borrow.Author.Tests.{eq-eqb, le-leb, not-false}
use lib.Dec.{lit<}
use Rattle.kindi.specs.declared.Params.{Params}
use Rattle.kindi.specs.Params.{is_set, of_set, public_length, secret_length, ciphertext_length}
use Rattle.kindi.specs.Params.{padded_length, keygen_work, encrypt_work, decrypt_work, noise_work}
use Rattle.kindi.specs.Decrypt.{Ending, blank, marked, other}
use Rattle.kindi.specs.Answers.{Answer, refused, answered, refuse_if, then, recovered_coins, plain}
use Rattle.kindi.specs.Answers.{keygen, encrypt, encrypt_each, encaps, decrypt, decaps, noise_of}
use Rattle.kindi.specs.Calls.{number, in_set, keygen_call, encrypt_call, encrypt_each_call, encaps_call, decrypt_call, decaps_call, noise_call}
use Rattle.kindi.proofs.Chains.{never, passed}

-- Of a set that there is a call answers what it answers over the set's parameters.
in_set_lem : {A : Type 0} (set : ℕ) (answer : Params → Answer A) → is_set set ≡ true → in_set set answer ≡ answer (of_set set)
unfolding in_set refuse_if
in_set_lem set answer e = rw e refl

-- Both tests pass.
pass : {a b : Bool} → a ≡ true → b ≡ true → a && b ≡ true
pass e f = rw (e, f) refl

module _ (set : ℕ) (there : is_set set ≡ true) where
  abbrev P : Params
  P = of_set set

  pub keygen_called : (μ γ z : List ℕ) {a b w : ℕ} → a ≡ public_length P → b ≡ secret_length P → keygen_work P ≤ w
      → keygen_call set μ γ z a b w ≡ keygen P true μ γ z
  unfolding keygen_call
  keygen_called μ γ z ea eb h =
      in_set_lem set _ there ∙ ap (λ (r : Bool). keygen P r μ γ z) (pass (eq-eqb _ _ ea) (pass (eq-eqb _ _ eb) (le-leb _ _ h)))

  pub encrypt_called : (pk coins message : List ℕ) {a w : ℕ} → a ≡ ciphertext_length P → encrypt_work P ≤ w
      → encrypt_call set pk coins message a w ≡ encrypt P true pk coins message
  unfolding encrypt_call
  encrypt_called pk coins message ea h =
      in_set_lem set _ there ∙ ap (λ (r : Bool). encrypt P r pk coins message) (pass (eq-eqb _ _ ea) (le-leb _ _ h))

  pub encrypt_each_called : (count : ℕ) (keys list message : List ℕ) {a w : ℕ} → a ≡ count * ciphertext_length P → encrypt_work P ≤ w
      → encrypt_each_call set count keys list message a w ≡ encrypt_each P true count keys list message
  unfolding encrypt_each_call
  encrypt_each_called count keys list message ea h =
      in_set_lem set _ there ∙ ap (λ (r : Bool). encrypt_each P r count keys list message) (pass (eq-eqb _ _ ea) (le-leb _ _ h))

  pub encaps_called : (pk coins : List ℕ) {a b w : ℕ} → a ≡ P.coins → b ≡ ciphertext_length P → encrypt_work P ≤ w
      → encaps_call set pk coins a b w ≡ encaps P true pk coins
  unfolding encaps_call
  encaps_called pk coins ea eb h =
      in_set_lem set _ there ∙ ap (λ (r : Bool). encaps P r pk coins) (pass (eq-eqb _ _ ea) (pass (eq-eqb _ _ eb) (le-leb _ _ h)))

  pub decrypt_called : (sk ct : List ℕ) {a b w : ℕ} → a ≡ P.coins → b ≡ padded_length P - 1 → decrypt_work P ≤ w
      → decrypt_call set sk ct a b w ≡ decrypt P true sk ct
  unfolding decrypt_call
  decrypt_called sk ct ea eb h =
      in_set_lem set _ there ∙ ap (λ (r : Bool). decrypt P r sk ct) (pass (eq-eqb _ _ ea) (pass (eq-eqb _ _ eb) (le-leb _ _ h)))

  pub decaps_called : (sk ct : List ℕ) {a w : ℕ} → a ≡ P.coins → decrypt_work P ≤ w → decaps_call set sk ct a w ≡ decaps P true sk ct
  unfolding decaps_call
  decaps_called sk ct ea h = in_set_lem set _ there ∙ ap (λ (r : Bool). decaps P r sk ct) (pass (eq-eqb _ _ ea) (le-leb _ _ h))

  pub noise_called : (sk coins message : List ℕ) {w : ℕ} → noise_work P ≤ w
      → noise_call set sk coins message w ≡ noise_of P true sk coins message
  unfolding noise_call
  noise_called sk coins message h = in_set_lem set _ there ∙ ap (λ (r : Bool). noise_of P r sk coins message) (le-leb _ _ h)

-- ---- 0 is success

-- An answer whose number is 0 has values.
abbrev pub Proper : {A : Type 0} → Answer A → Type 0
Proper {A} answer = number answer ≡ 0 → (v : A) × (answer ≡ answered v)

-- Values are such an answer.
proper_answered : {A : Type 0} (v : A) → Proper (answered v)
proper_answered v e = (v, refl)

-- So is a check, whose number is above 0, before one that is.
proper_check : {A : Type 0} (bad : Bool) (n : ℕ) (next : Answer A) → 0 < n → Proper next → Proper (refuse_if bad n next)
unfolding refuse_if number
proper_check true n next some p e = absurd (omega arith)
proper_check false n next some p e = p e

-- So are two of them, one after the other.
proper_then : {A B : Type 0} (first : Answer A) (next : A → Answer B) → Proper first → ((a : A) → Proper (next a))
    → Proper (then first next)
unfolding then number
proper_then (refused n) next p q e =
    let not_so = (p e).1 in
    never (cc)
proper_then (answered a) next p q e = q a e

-- So is what the ending of a padded message gives.
proper_plain : (coins : List ℕ) (end : Ending) → Proper (plain coins end)
unfolding plain number
proper_plain coins blank e = absurd (omega arith)
proper_plain coins (marked message) e = (record { coins = coins; message = message }, refl)
proper_plain coins other e = absurd (omega arith)

-- So is each call's answer, with room or without.
module _ (P : Params) (room : Bool) where
  pub keygen_proper : (μ γ z : List ℕ) → Proper (keygen P room μ γ z)
  unfolding keygen
  keygen_proper μ γ z = search (proper_check, proper_answered, lit<) depth 9

  pub encrypt_proper : (pk coins message : List ℕ) → Proper (encrypt P room pk coins message)
  unfolding encrypt
  encrypt_proper pk coins message = search (proper_check, proper_answered, lit<) depth 9

  pub encrypt_each_proper : (count : ℕ) (keys list message : List ℕ) → Proper (encrypt_each P room count keys list message)
  unfolding encrypt_each
  encrypt_each_proper count keys list message = search (proper_check, proper_answered, lit<) depth 9

  pub encaps_proper : (pk coins : List ℕ) → Proper (encaps P room pk coins)
  unfolding encaps
  encaps_proper pk coins = search (proper_check, proper_answered, lit<) depth 9

  pub decrypt_proper : (sk ct : List ℕ) → Proper (decrypt P room sk ct)
  unfolding decrypt recovered_coins
  decrypt_proper sk ct = search (proper_then, proper_check, proper_answered, proper_plain, lit<) depth 9

  pub decaps_proper : (sk ct : List ℕ) → Proper (decaps P room sk ct)
  unfolding decaps recovered_coins
  decaps_proper sk ct = search (proper_then, proper_check, proper_answered, lit<) depth 9

  pub noise_proper : (sk coins message : List ℕ) → Proper (noise_of P room sk coins message)
  unfolding noise_of
  noise_proper sk coins message = search (proper_check, proper_answered, lit<) depth 9

-- A number that is not that of this check: it passed, and the number is that of what comes next.
pub goes_on : {A : Type 0} (bad : Bool) (n : ℕ) {m : ℕ} (next : Answer A) → (n ≡ m → ⊥) → number (refuse_if bad n next) ≡ m
    → (bad ≡ false) × (number next ≡ m)
unfolding refuse_if number
goes_on true n next apart e = absurd (apart e)
goes_on false n next apart e = (refl, e)

-- A call by set number that returns another number than 1 is of a set that there is.
other_than_1 : {A : Type 0} (set : ℕ) (answer : Params → Answer A) {m : ℕ} → (1 ≡ m → ⊥) → number (in_set set answer) ≡ m → is_set set ≡ true
unfolding in_set
other_than_1 set answer apart e = not-false _ (goes_on (not (is_set set)) 1 _ apart e).0

-- A call by set number that returns 0 is of a set that there is, and has values.
abbrev pub Succeeded : {A : Type 0} → ℕ → Answer A → Type 0
Succeeded {A} set answer = (is_set set ≡ true) × ((v : A) × (answer ≡ answered v))

succeeded : {A : Type 0} (set : ℕ) (answer : Params → Answer A) → Proper (answer (of_set set)) → number (in_set set answer) ≡ 0
    → Succeeded set (in_set set answer)
unfolding in_set
succeeded set answer p e =
    let a = proper_check _ 1 _ (omega arith) p e in
    (not-false _ (passed _ 1 a.1).0, a)

-- So of each call, whatever it was given.
module _ (set : ℕ) where
  pub keygen-zero : (μ γ z : List ℕ) (a b w : ℕ) → number (keygen_call set μ γ z a b w) ≡ 0
      → Succeeded set (keygen_call set μ γ z a b w)
  unfolding keygen_call
  keygen-zero μ γ z a b w = succeeded set _ (keygen_proper (of_set set) _ μ γ z)

  pub encrypt-zero : (pk coins message : List ℕ) (a w : ℕ) → number (encrypt_call set pk coins message a w) ≡ 0
      → Succeeded set (encrypt_call set pk coins message a w)
  unfolding encrypt_call
  encrypt-zero pk coins message a w = succeeded set _ (encrypt_proper (of_set set) _ pk coins message)

  pub encrypt_each_zero : (count : ℕ) (keys list message : List ℕ) (a w : ℕ) → number (encrypt_each_call set count keys list message a w) ≡ 0
      → Succeeded set (encrypt_each_call set count keys list message a w)
  unfolding encrypt_each_call
  encrypt_each_zero count keys list message a w = succeeded set _ (encrypt_each_proper (of_set set) _ count keys list message)

  pub encrypt_each_set : (count : ℕ) (keys list message : List ℕ) (a w : ℕ) {m : ℕ} → (1 ≡ m → ⊥)
      → number (encrypt_each_call set count keys list message a w) ≡ m → is_set set ≡ true
  unfolding encrypt_each_call
  encrypt_each_set count keys list message a w = other_than_1 set _

  pub encaps-zero : (pk coins : List ℕ) (a b w : ℕ) → number (encaps_call set pk coins a b w) ≡ 0
      → Succeeded set (encaps_call set pk coins a b w)
  unfolding encaps_call
  encaps-zero pk coins a b w = succeeded set _ (encaps_proper (of_set set) _ pk coins)

  pub decrypt-zero : (sk ct : List ℕ) (a b w : ℕ) → number (decrypt_call set sk ct a b w) ≡ 0
      → Succeeded set (decrypt_call set sk ct a b w)
  unfolding decrypt_call
  decrypt-zero sk ct a b w = succeeded set _ (decrypt_proper (of_set set) _ sk ct)

  pub decaps-zero : (sk ct : List ℕ) (a w : ℕ) → number (decaps_call set sk ct a w) ≡ 0
      → Succeeded set (decaps_call set sk ct a w)
  unfolding decaps_call
  decaps-zero sk ct a w = succeeded set _ (decaps_proper (of_set set) _ sk ct)

  pub noise-zero : (sk coins message : List ℕ) (w : ℕ) → number (noise_call set sk coins message w) ≡ 0
      → Succeeded set (noise_call set sk coins message w)
  unfolding noise_call
  noise-zero sk coins message w = succeeded set _ (noise_proper (of_set set) _ sk coins message)

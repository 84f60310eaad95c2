-- What a call left, read as its answer: 0 says that it answered, and what it answered is what it left. Assumes nothing.
use mathlib.Core.Path.{◌≡◌, refl, sym, ap, ap₂, ◌∙◌}
use mathlib.Core.Bool.{Bool, true, false, cond}
use mathlib.Core.List.{List}
use Prim.Native.Nat.{ℕ, ◌-◌, ◌≤◌}
use native.Mathlib.Nat.{le_refl}
use native.Mathlib.Omega.{arith}
use lib.ListN.{length, take, replicate, length-replicate}
use lib.Seq.{take-append_seam}
use Rattle.kindi.specs.declared.Params.{Params}
use Rattle.kindi.specs.Params.{is_set, of_set, ciphertext_length, encrypt_work}
use Rattle.kindi.specs.Answers.{answered, Keys, Plain, Shared, Size, keygen, encrypt, encrypt_each, encaps, decrypt, decaps, noise_of}
use Rattle.kindi.specs.Calls.{number, work_after, message_output}
use Rattle.kindi.proofs.Called as Called
use Rattle.calls.proofs.Ends.{given}
use Rattle.calls.proofs.Checked.{answered_number, given_returned}
use Rattle.scheme.specs.Leaves.{KeygenLeaves, EncryptLeaves, EncryptEachLeaves, EncapsLeaves, DecryptLeaves, DecapsLeaves, NoiseLeaves, IsPair}

-- Messages of one length that are shown the same are the same.
shown_same : (room : ℕ) (m m' : List ℕ) → length m ≡ length m' → message_output room m ≡ message_output room m' → m ≡ m'
unfolding message_output
shown_same room m m' long e =
    sym (take-append_seam m (replicate (room - length m) 0)) ∙ ap₂ take long e ∙ take-append_seam m' (replicate (room - length m') 0)

-- A flag of 1 is true.
flag_true : (b : Bool) → ◌≡◌ {A = ℕ} (cond b 1 0) 1 → b ≡ true
flag_true true e = refl
flag_true false e = absurd (omega arith)

module _ (set : ℕ) where
  abbrev P : Params
  P = of_set set

  -- keygen answered.
  pub keygen-zero : {μ γ z : List ℕ} {status : ℕ} {pk sk : List ℕ} → KeygenLeaves set μ γ z status pk sk → status ≡ 0
      → (is_set set ≡ true) × (keygen P true μ γ z ≡ answered (record { public_key = pk; secret_key = sk }))
  keygen-zero {μ} {γ} {z} left zero =
      let e = left.exit in
      let success = Called.keygen-zero set μ γ z (length left.pk) (length left.sk) (length left.work) (sym e.returned ∙ zero) in
      let here = success.0 in
      let a = success.1 in
      let public = given (λ (keys : Keys). keys.public_key) left.pk a.1 ∙ sym e.public in
      let secret = given (λ (keys : Keys). keys.secret_key) left.sk a.1 ∙ sym e.secret in (
        here,
        sym (Called.keygen_called set here μ γ z left.public_long left.secret_long left.work_long) ∙ a.1
            ∙ ap₂ (λ (x y : List ℕ). answered (record { public_key = x; secret_key = y })) public secret,
      )

  -- encrypt answered.
  pub encrypt-zero : {pk coins message : List ℕ} {status : ℕ} {ct : List ℕ} → EncryptLeaves set pk coins message status ct → status ≡ 0
      → (is_set set ≡ true) × (encrypt P true pk coins message ≡ answered ct)
  encrypt-zero {pk} {coins} {message} left zero =
      let e = left.exit in
      let success = Called.encrypt-zero set pk coins message (length left.ct) (length left.work) (sym e.returned ∙ zero) in
      let here = success.0 in
      let a = success.1 in (
        here,
        sym (Called.encrypt_called set here pk coins message left.cipher_long left.work_long) ∙ a.1
            ∙ ap answered (given (λ (c : List ℕ). c) left.ct a.1 ∙ sym e.ciphertext),
      )

  -- Where it answers, every call leaves the answer.
  pub encrypt_leaves : {pk coins message ct : List ℕ} {status : ℕ} {ct' : List ℕ} → is_set set ≡ true
      → encrypt P true pk coins message ≡ answered ct → EncryptLeaves set pk coins message status ct' → (status ≡ 0) × (ct' ≡ ct)
  encrypt_leaves {pk} {coins} {message} here answer left =
      let e = left.exit in
      let a = Called.encrypt_called set here pk coins message left.cipher_long left.work_long ∙ answer in
      (e.returned ∙ sym (answered_number a), e.ciphertext ∙ sym (given (λ (c : List ℕ). c) left.ct a))

  -- And such a call can be made.
  pub encrypt-some : {pk coins message ct : List ℕ} → is_set set ≡ true → encrypt P true pk coins message ≡ answered ct
      → EncryptLeaves set pk coins message 0 ct
  encrypt-some {pk} {coins} {message} here answer =
      let room : List ℕ = replicate (ciphertext_length P) 0 in
      let work : List ℕ = replicate (encrypt_work P) 0 in
      let long : length room ≡ ciphertext_length P = length-replicate (ciphertext_length P) 0 in
      let enough : encrypt_work P ≤ length work = rw (length-replicate {A = ℕ} (encrypt_work P) 0) (le_refl (encrypt_work P)) in
      let a = Called.encrypt_called set here pk coins message long enough ∙ answer in
      record {
        ct = room;
        work = work;
        work' = work_after set (encrypt_work P) work;
        cipher_long = long;
        work_long = enough;
        exit = record { returned = answered_number a; ciphertext = given (λ (c : List ℕ). c) room a; wiped = refl };
      }

  -- encrypt_each answered.
  pub encrypt_each_zero : {count : ℕ} {keys list message : List ℕ} {status : ℕ} {cts : List ℕ}
      → EncryptEachLeaves set count keys list message status cts → status ≡ 0
      → (is_set set ≡ true) × (encrypt_each P true count keys list message ≡ answered cts)
  encrypt_each_zero {count} {keys} {list} {message} left zero =
      let e = left.exit in
      let success = Called.encrypt_each_zero set count keys list message (length left.cts) (length left.work) (sym e.returned ∙ zero) in
      let here = success.0 in
      let a = success.1 in (
        here,
        sym (Called.encrypt_each_called set here count keys list message left.ciphers_long left.work_long) ∙ a.1
            ∙ ap answered (given (λ (c : List ℕ). c) left.cts a.1 ∙ sym e.ciphertexts),
      )

  -- What it returned is the number of its answer, where there is such a set.
  pub encrypt_each_told : {count : ℕ} {keys list message : List ℕ} {status : ℕ} {cts : List ℕ}
      → EncryptEachLeaves set count keys list message status cts → is_set set ≡ true
      → status ≡ number (encrypt_each P true count keys list message)
  encrypt_each_told {count} {keys} {list} {message} left here =
      left.exit.returned ∙ ap number (Called.encrypt_each_called set here count keys list message left.ciphers_long left.work_long)

  -- Where that is not 1, there is.
  pub encrypt_each_there : {count : ℕ} {keys list message : List ℕ} {status : ℕ} {cts : List ℕ}
      → EncryptEachLeaves set count keys list message status cts → (1 ≡ status → ⊥) → is_set set ≡ true
  encrypt_each_there {count} {keys} {list} {message} left other =
      Called.encrypt_each_set set count keys list message (length left.cts) (length left.work) other (sym left.exit.returned)

  -- encaps answered.
  pub encaps-zero : {pk coins : List ℕ} {status : ℕ} {key ct : List ℕ} → EncapsLeaves set pk coins status key ct → status ≡ 0
      → (is_set set ≡ true) × (encaps P true pk coins ≡ answered (record { key = key; ciphertext = ct }))
  encaps-zero {pk} {coins} left zero =
      let e = left.exit in
      let success = Called.encaps-zero set pk coins (length left.key) (length left.ct) (length left.work) (sym e.returned ∙ zero) in
      let here = success.0 in
      let a = success.1 in
      let key_is = given (λ (s : Shared). s.key) left.key a.1 ∙ sym e.key_is in
      let cipher-is = given (λ (s : Shared). s.ciphertext) left.ct a.1 ∙ sym e.ciphertext in (
        here,
        sym (Called.encaps_called set here pk coins left.key_long left.cipher_long left.work_long) ∙ a.1
            ∙ ap₂ (λ (x y : List ℕ). answered (record { key = x; ciphertext = y })) key_is cipher-is,
      )

  pub encaps_leaves : {pk coins key ct : List ℕ} {status : ℕ} {key' ct' : List ℕ} → is_set set ≡ true
      → encaps P true pk coins ≡ answered (record { key = key; ciphertext = ct }) → EncapsLeaves set pk coins status key' ct'
      → (status ≡ 0) × (key' ≡ key) × (ct' ≡ ct)
  encaps_leaves {pk} {coins} here answer left =
      let e = left.exit in
      let a = Called.encaps_called set here pk coins left.key_long left.cipher_long left.work_long ∙ answer in (
        e.returned ∙ sym (answered_number a),
        e.key_is ∙ sym (given (λ (s : Shared). s.key) left.key a),
        e.ciphertext ∙ sym (given (λ (s : Shared). s.ciphertext) left.ct a),
      )

  pub encaps-some : {pk coins key ct : List ℕ} → is_set set ≡ true
      → encaps P true pk coins ≡ answered (record { key = key; ciphertext = ct }) → EncapsLeaves set pk coins 0 key ct
  encaps-some {pk} {coins} here answer =
      let key-room : List ℕ = replicate P.coins 0 in
      let room : List ℕ = replicate (ciphertext_length P) 0 in
      let work : List ℕ = replicate (encrypt_work P) 0 in
      let key_long : length key-room ≡ P.coins = length-replicate P.coins 0 in
      let long : length room ≡ ciphertext_length P = length-replicate (ciphertext_length P) 0 in
      let enough : encrypt_work P ≤ length work = rw (length-replicate {A = ℕ} (encrypt_work P) 0) (le_refl (encrypt_work P)) in
      let a = Called.encaps_called set here pk coins key_long long enough ∙ answer in
      record {
        key = key-room;
        ct = room;
        work = work;
        work' = work_after set (encrypt_work P) work;
        key_long = key_long;
        cipher_long = long;
        work_long = enough;
        exit = record {
          returned = answered_number a;
          key_is = given (λ (s : Shared). s.key) key-room a;
          ciphertext = given (λ (s : Shared). s.ciphertext) room a;
          wiped = refl;
        };
      }

  -- decrypt answered the pair that it left.
  pub decrypt_pair : {sk ct coins message : List ℕ} {status : ℕ} {coins' message' : List ℕ} {len' : ℕ}
      → DecryptLeaves set sk ct status coins' message' len' → IsPair set coins message status coins' message' len'
      → (is_set set ≡ true) × (decrypt P true sk ct ≡ answered (record { coins = coins; message = message }))
  decrypt_pair {sk} {ct} {coins} {message} left pair =
      let e = left.exit in
      let success = Called.decrypt-zero set sk ct (length left.coins) (length left.message) (length left.work)
      (sym e.number_is ∙ pair.success) in
      let here = success.0 in
      let a = success.1 in
      let coins_are : a.0.coins ≡ coins =
      given (λ (opened : Plain). opened.coins) left.coins a.1 ∙ sym e.coins_are ∙ pair.coins_are in
      let long : length a.0.message ≡ length message =
      given_returned (λ (opened : Plain). length opened.message) a.1 ∙ sym e.length_is ∙ pair.length_is in
      let shown : message_output (length left.message) a.0.message ≡ message_output (length left.message) message =
      given (λ (opened : Plain). message_output (length left.message) opened.message) left.message a.1
      ∙ sym e.message_is ∙ pair.message_is ∙ ap (λ (r : ℕ). message_output r message) (sym left.message_long) in (
        here,
        sym (Called.decrypt_called set here sk ct left.coins_long left.message_long left.work_long) ∙ a.1
            ∙ ap₂ (λ (x y : List ℕ). answered (record { coins = x; message = y })) coins_are
            (shown_same (length left.message) a.0.message message long shown),
      )

  -- Where it answers a pair, every call leaves it.
  pub decrypt_leaves : {sk ct coins message : List ℕ} {status : ℕ} {coins' message' : List ℕ} {len' : ℕ} → is_set set ≡ true
      → decrypt P true sk ct ≡ answered (record { coins = coins; message = message })
      → DecryptLeaves set sk ct status coins' message' len' → IsPair set coins message status coins' message' len'
  decrypt_leaves {sk} {ct} {coins} {message} here answer left =
      let e = left.exit in
      let a = Called.decrypt_called set here sk ct left.coins_long left.message_long left.work_long ∙ answer in
      record {
        success = e.number_is ∙ sym (answered_number a);
        coins_are = e.coins_are ∙ sym (given (λ (opened : Plain). opened.coins) left.coins a);
        message_is = e.message_is
            ∙ sym (given (λ (opened : Plain). message_output (length left.message) opened.message) left.message a)
            ∙ ap (λ (r : ℕ). message_output r message) left.message_long;
        length_is = e.length_is ∙ sym (given_returned (λ (opened : Plain). length opened.message) a);
      }

  -- decaps answered.
  pub decaps-zero : {sk ct : List ℕ} {status : ℕ} {key : List ℕ} → DecapsLeaves set sk ct status key → status ≡ 0
      → (is_set set ≡ true) × (decaps P true sk ct ≡ answered key)
  decaps-zero {sk} {ct} left zero =
      let e = left.exit in
      let success = Called.decaps-zero set sk ct (length left.key) (length left.work) (sym e.number_is ∙ zero) in
      let here = success.0 in
      let a = success.1 in (
        here,
        sym (Called.decaps_called set here sk ct left.key_long left.work_long) ∙ a.1
            ∙ ap answered (given (λ (k : List ℕ). k) left.key a.1 ∙ sym e.key_is),
      )

  pub decaps_leaves : {sk ct key : List ℕ} {status : ℕ} {key' : List ℕ} → is_set set ≡ true → decaps P true sk ct ≡ answered key
      → DecapsLeaves set sk ct status key' → (status ≡ 0) × (key' ≡ key)
  decaps_leaves {sk} {ct} here answer left =
      let e = left.exit in
      let a = Called.decaps_called set here sk ct left.key_long left.work_long ∙ answer in
      (e.number_is ∙ sym (answered_number a), e.key_is ∙ sym (given (λ (k : List ℕ). k) left.key a))

  -- noise answered clear.
  pub noise-clear_left : {sk coins message : List ℕ} {status clear' largest' : ℕ} → NoiseLeaves set sk coins message status clear' largest'
      → status ≡ 0 → clear' ≡ 1
      → (is_set set ≡ true) × ((size : Size) × (noise_of P true sk coins message ≡ answered size) × (size.is_clear ≡ true))
  noise-clear_left {sk} {coins} {message} left zero one =
      let e = left.exit in
      let success = Called.noise-zero set sk coins message (length left.work) (sym e.number_is ∙ zero) in
      let here = success.0 in
      let a = success.1 in (
        here,
        (
          a.0,
          sym (Called.noise_called set here sk coins message left.work_long) ∙ a.1,
          flag_true a.0.is_clear (given_returned (λ (size : Size). cond size.is_clear 1 0) a.1 ∙ sym e.clear_is ∙ one),
        ),
      )

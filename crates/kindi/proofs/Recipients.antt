-- One message for several recipients (02, No. 1): each part of the output is what encryption to that recipient alone answers, it
-- depends on no other, and a clear pair comes back; when refusal 14 stands. Assumes nothing.
use mathlib.Core.Path.{◌≡◌, refl, sym, ap, ap₂, ◌∙◌}
use mathlib.Core.Bool.{Bool, true, false, not, ◌&&◌}
use mathlib.Core.List.{List}
use Prim.Native.Nat.{ℕ, ◌*◌, ◌≤◌, ◌<◌}
use native.Mathlib.Omega.{arith}
use borrow.Author.Tests.{leb-true, leb-false, le-leb, lt-leb, not-false}
use lib.Pow.{pow_pos}
use Rattle.keccak.specs.Lists.{tabulate}
use Rattle.bits.specs.Bits.{Below}
use Rattle.ring.proofs.Ring.{sides}
use Rattle.kindi.specs.declared.Params.{Params}
use Rattle.kindi.specs.Both.{Iff}
use Rattle.kindi.specs.Params.{WellFormed}
use Rattle.kindi.specs.Encrypt.{ciphertext}
use Rattle.kindi.specs.Noise.{clear}
use Rattle.kindi.specs.Answers.{answered, refuse_if, Keys, keygen, encrypt, decrypt}
use Rattle.kindi.specs.Answers.{same, some, key_at, coins_at, ciphertext_at, is_count, equal_coins, ciphertexts, encrypt_each}
use Rattle.kindi.specs.Calls.{number}
use Rattle.kindi.specs.Recipients.{EachFits, TwoEqual}
use Rattle.kindi.proofs.Chains.{never, passed, passes, both, same_length, length-same, same-eq, eq-same, answered_eq, encrypt_answers}
use Rattle.kindi.proofs.Called.{goes_on}
use Rattle.kindi.proofs.Lists.{some_place, some_at, part_long, part-joined}
use Rattle.kindi.proofs.Made.{length-ciphertext, ciphertext_below}
use Rattle.kindi.proofs.Padding.{part_below}
use Rattle.kindi.proofs.Correct.{clear_returns}

-- ---- what the checks say

-- The check of 14 finds exactly two recipients with equal coins.
pub equal_coins_iff : (P : Params) (count : ℕ) (list : List ℕ) → Iff (equal_coins P count list ≡ true) (TwoEqual P count list)
unfolding equal_coins
equal_coins_iff P count list = record {
  forth = λ e.
      let later = some_place count _ e in
      let earlier = some_place later.0 _ later.2 in
      record {
        first = earlier.0;
        second = later.0;
        first_there = omega (arith, earlier.1, later.1);
        second_there = later.1;
        apart = λ s. omega (arith, s, earlier.1);
        equal = same-eq _ _ earlier.2;
      };
  back = λ two.
      sides two.first two.second
      (λ h. found two.first two.second (before two.first two.second h two.apart) two.second_there two.equal)
      (λ h. found two.second two.first h two.first_there (sym two.equal));
}
  where
    before : (i j : ℕ) → i ≤ j → (i ≡ j → ⊥) → i < j
    before i j h d = omega arith

    found : (i j : ℕ) → i < j → j < count → coins_at P list i ≡ coins_at P list j → equal_coins P count list ≡ true
    found i j h l e =
        some_at count (λ m. some (tabulate m (λ k. same (coins_at P list k) (coins_at P list m)))) j l
        (some_at j (λ k. same (coins_at P list k) (coins_at P list j)) i h (eq-same e))

-- The number of a check before values is that of the check exactly where it does not pass.
last_check : {A : Type 0} (bad : Bool) (n : ℕ) (values : A) → 0 < n → Iff (number (refuse_if bad n (answered values)) ≡ n) (bad ≡ true)
unfolding refuse_if number
last_check true n values some = record { forth = λ e. refl; back = λ e. refl }
last_check false n values some = record { forth = λ e. absurd (omega arith); back = λ e. never (cc) }

module _ (P : Params) (room : Bool) (count : ℕ) (keys list message : List ℕ) where
  -- An answer whose number is none of the first checks' has passed them.
  each_fits : (m : ℕ) → (13 ≡ m → ⊥) → (2 ≡ m → ⊥) → (3 ≡ m → ⊥) → (4 ≡ m → ⊥)
      → number (encrypt_each P room count keys list message) ≡ m → EachFits P room count keys list message
  unfolding encrypt_each
  each_fits m not-13 not-2 not-3 not-4 e =
      let c1 = goes_on (not (is_count count)) 13 _ not-13 e in
      let c2 = goes_on _ 2 _ not-2 c1.1 in
      let c3 = goes_on _ 2 _ not-2 c2.1 in
      let c4 = goes_on _ 3 _ not-3 c3.1 in
      let c5 = goes_on _ 4 _ not-4 c4.1 in
      let counted = both _ _ (not-false _ c1.0) in
      record {
        some_recipients = leb-true 1 count counted.0;
        few_recipients = leb-true count 12 counted.1;
        keys_long = same_length c2.0;
        coins_long = same_length c3.0;
        message_fits = leb-false _ _ c4.0;
        room_there = not-false room c5.0;
      }

  -- Once they are passed, the check of 14 is left.
  each_checked : EachFits P room count keys list message
      → encrypt_each P room count keys list message ≡ refuse_if (equal_coins P count list) 14 (answered (ciphertexts P count keys list message))
  unfolding encrypt_each
  each_checked fits =
      passes 13 _ (ap₂ (λ (a b : Bool). not (a && b)) (le-leb 1 count fits.some_recipients) (le-leb count 12 fits.few_recipients))
      ∙ passes 2 _ (length-same fits.keys_long) ∙ passes 2 _ (length-same fits.coins_long)
      ∙ passes 3 _ (lt-leb _ _ fits.message_fits) ∙ passes 4 _ (ap not fits.room_there)

  -- Refusal 14 stands exactly where the first checks are passed and some two of the recipients have equal coins.
  pub each_equal_iff : Iff (number (encrypt_each P room count keys list message) ≡ 14)
      (EachFits P room count keys list message × TwoEqual P count list)
  each_equal_iff =
      let refuses = last_check (equal_coins P count list) 14 (ciphertexts P count keys list message) (omega arith) in
      let two = equal_coins_iff P count list in
      record {
        forth = λ e.
            let fits = each_fits 14 (λ s. omega (arith, s)) (λ s. omega (arith, s)) (λ s. omega (arith, s)) (λ s. omega (arith, s)) e in
            (fits, two.forth (refuses.forth (ap number (sym (each_checked fits)) ∙ e)));
        back = λ h. ap number (each_checked h.0) ∙ refuses.back (two.back h.1);
      }

  -- Success says that they are passed, and that the output is the ciphertexts.
  each_sealed : (cts : List ℕ) → encrypt_each P room count keys list message ≡ answered cts
      → EachFits P room count keys list message × (ciphertexts P count keys list message ≡ cts)
  unfolding number
  each_sealed cts e =
      let fits = each_fits 0 (λ s. omega (arith, s)) (λ s. omega (arith, s)) (λ s. omega (arith, s)) (λ s. omega (arith, s)) (ap number e) in
      (fits, answered_eq (passed _ 14 (sym (each_checked fits) ∙ e)).1)

-- ---- the parts of the output

-- Coins of a list of bytes are bytes.
coins_below : (P : Params) (list : List ℕ) (i : ℕ) → Below 256 list → Below 256 (coins_at P list i)
unfolding coins_at
coins_below P list i bytes = part_below 256 (i * P.coins) P.coins list (pow_pos 8) bytes

module _ (P : Params) (W : WellFormed P) (count : ℕ) (keys list message cts : List ℕ)
    (sealed : encrypt_each P true count keys list message ≡ answered cts) (i : ℕ) (there : i < count) where
  -- Part i is the ciphertext of key i, coins i and the message.
  each_is : ciphertext_at P cts i ≡ ciphertext P (key_at P keys i) (coins_at P list i) message
  unfolding ciphertext_at ciphertexts
  each_is =
      ap (λ (c : List ℕ). ciphertext_at P c i) (sym (each_sealed P true count keys list message cts sealed).1)
      ∙ part-joined count _ (λ j. ciphertext P (key_at P keys j) (coins_at P list j) message) i
      (λ j _. length-ciphertext P (key_at P keys j) (coins_at P list j) message W) there

  -- So it is what encryption with key i and coins i alone answers.
  pub each_part : encrypt P true (key_at P keys i) (coins_at P list i) message ≡ answered (ciphertext_at P cts i)
  unfolding key_at coins_at
  each_part =
      let fits = (each_sealed P true count keys list message cts sealed).0 in
      encrypt_answers P (key_at P keys i) (coins_at P list i) message (ciphertext_at P cts i)
      (record {
        key_long = part_long _ keys fits.keys_long there;
        coins_long = part_long _ list fits.coins_long there;
        fits = fits.message_fits;
        is = sym each_is;
      })

  -- It is made of bytes.
  pub each_below : Below 256 (ciphertext_at P cts i)
  each_below = rw each_is (ciphertext_below P (key_at P keys i) (coins_at P list i) message)

  -- Whatever the seeds of recipient i, a clear pair comes back exactly from part i, whoever the others are.
  pub clear_each_returns : (μ γ z : List ℕ) (made : Keys) → Below 256 list → Below 256 message
      → keygen P true μ γ z ≡ answered made → key_at P keys i ≡ made.public_key → clear P μ γ (coins_at P list i) message ≡ true
      → decrypt P true made.secret_key (ciphertext_at P cts i) ≡ answered (record { coins = coins_at P list i; message = message })
  clear_each_returns μ γ z made list-bytes message-bytes keys-made own is-clear =
      clear_returns P W μ γ z (coins_at P list i) message (ciphertext_at P cts i) made (coins_below P list i list-bytes) message-bytes keys-made
      (rw own at each_part) is-clear

-- Two calls that agree on the message, on the key and on the coins of a recipient give it the same part, whatever else they are
-- given, and wherever it stands in them.
pub each_own : (P : Params) → WellFormed P → (count count₂ : ℕ) (keys keys₂ list list₂ message cts cts₂ : List ℕ) (i j : ℕ)
    → encrypt_each P true count keys list message ≡ answered cts → encrypt_each P true count₂ keys₂ list₂ message ≡ answered cts₂
    → i < count → j < count₂ → key_at P keys i ≡ key_at P keys₂ j → coins_at P list i ≡ coins_at P list₂ j
    → ciphertext_at P cts i ≡ ciphertext_at P cts₂ j
each_own P W count count₂ keys keys₂ list list₂ message cts cts₂ i j sealed sealed₂ h l same_key same-coins =
    each_is P W count keys list message cts sealed i h
    ∙ ap₂ (λ (k c : List ℕ). ciphertext P k c message) same_key same-coins
    ∙ sym (each_is P W count₂ keys₂ list₂ message cts₂ sealed₂ j l)

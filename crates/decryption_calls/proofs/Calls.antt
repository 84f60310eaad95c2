-- The checks of lengths of decrypt and decaps: where their status is 0, the lengths are what the inner function asks, and the
-- answer is the one for lengths that fit. Assumes nothing.
use mathlib.Core.Path.{◌≡◌}
use mathlib.Core.Bool.{true, cond, not, ◌&&◌}
use mathlib.Core.List.{List}
use Prim.Native.Nat.{ℕ, ◌-◌, ◌≤◌}
use native.Mathlib.Omega.{arith}
use borrow.Author.Tests.{ltb-false, not-false}
use lib.Dec.{eqb, leb}
use lib.ListN.{length}
use Rattle.kindi.specs.declared.Params.{Params}
use Rattle.kindi.specs.Params.{is_set, of_set, secret_length, ciphertext_length, padded_length, decrypt_work}
use Rattle.kindi.specs.Answers.{differs, recovered_coins, decrypt, decaps}
use Rattle.kindi.specs.Calls.{in_set, decrypt_call, decaps_call}
use Rattle.kindi.proofs.Chains.{same_length}
use Rattle.calls.proofs.Ends.{check_both, too_short}
use Rattle.calls.proofs.Checked.{Checked, unchecked, check_first, then_check, then_next, zero_check}
use Rattle.decryption_calls.specs.Status.{decrypt_status, decaps_status}
use Rattle.decryption_calls.specs.Fitting.{decrypt_fitting, decaps_fitting}

-- ---- decrypt

-- The checks of outputs and of the work area are one, of the room.
decrypt_room : (set : ℕ) (P : Params) (sk ct coins message work : ℕ) → decrypt_status set P sk ct coins message work
    ≡ cond (not (is_set set)) 1 (cond (differs sk (secret_length P)) 2 (cond (differs ct (ciphertext_length P)) 2
    (cond (not (eqb coins P.coins && (eqb message (padded_length P - 1) && leb (decrypt_work P) work))) 4 0)))
unfolding decrypt_status
decrypt_room set P sk ct coins message work = simp (check_both, too_short)

-- The status of the lengths says what the answer is.
pub decrypt-checked : (set : ℕ) (sk ct : List ℕ) (coins message work : ℕ)
    → Checked (decrypt_call set sk ct coins message work) (decrypt_fitting (of_set set) sk ct)
    (decrypt_status set (of_set set) (length sk) (length ct) coins message work)
unfolding decrypt_call in_set decrypt recovered_coins decrypt_fitting
decrypt-checked set sk ct coins message work =
    simp (then_check, then_next, decrypt_room)
    (check_first (not (is_set set)) 1 (omega arith)
    (check_first _ 2 (omega arith) (check_first _ 2 (omega arith) (check_first _ 4 (omega arith) unchecked))))

-- What status 0 says of the lengths.
pub record DecryptLengths (set : ℕ) (P : Params) (sk ct coins message work : ℕ) : Type 0 where
  pub there : is_set set ≡ true
  pub secret_long : sk ≡ secret_length P
  pub cipher_long : ct ≡ ciphertext_length P
  pub coins_long : coins ≡ P.coins
  pub message_long : message ≡ padded_length P - 1
  pub work_long : decrypt_work P ≤ work

pub decrypt_lengths : (set : ℕ) (P : Params) (sk ct coins message work : ℕ) → decrypt_status set P sk ct coins message work ≡ 0
    → DecryptLengths set P sk ct coins message work
unfolding decrypt_status
decrypt_lengths set P sk ct coins message work e =
    let c1 = zero_check (not (is_set set)) 1 (omega arith) e in
    let c2 = zero_check _ 2 (omega arith) c1.1 in
    let c3 = zero_check _ 2 (omega arith) c2.1 in
    let c4 = zero_check _ 4 (omega arith) c3.1 in
    let c5 = zero_check _ 4 (omega arith) c4.1 in
    let c6 = zero_check _ 4 (omega arith) c5.1 in
    record {
      there = not-false _ c1.0;
      secret_long = same_length c2.0;
      cipher_long = same_length c3.0;
      coins_long = same_length c4.0;
      message_long = same_length c5.0;
      work_long = ltb-false _ _ c6.0;
    }

-- ---- decaps

decaps_room : (set : ℕ) (P : Params) (sk ct key work : ℕ) → decaps_status set P sk ct key work
    ≡ cond (not (is_set set)) 1 (cond (differs sk (secret_length P)) 2 (cond (differs ct (ciphertext_length P)) 2
    (cond (not (eqb key P.coins && leb (decrypt_work P) work)) 4 0)))
unfolding decaps_status
decaps_room set P sk ct key work = simp (check_both, too_short)

pub decaps-checked : (set : ℕ) (sk ct : List ℕ) (key work : ℕ)
    → Checked (decaps_call set sk ct key work) (decaps_fitting (of_set set) sk ct)
    (decaps_status set (of_set set) (length sk) (length ct) key work)
unfolding decaps_call in_set decaps recovered_coins decaps_fitting
decaps-checked set sk ct key work =
    simp (then_check, then_next, decaps_room)
    (check_first (not (is_set set)) 1 (omega arith)
    (check_first _ 2 (omega arith) (check_first _ 2 (omega arith) (check_first _ 4 (omega arith) unchecked))))

-- What status 0 says of the lengths.
pub record DecapsLengths (set : ℕ) (P : Params) (sk ct key work : ℕ) : Type 0 where
  pub there : is_set set ≡ true
  pub secret_long : sk ≡ secret_length P
  pub cipher_long : ct ≡ ciphertext_length P
  pub key_long : key ≡ P.coins
  pub work_long : decrypt_work P ≤ work

pub decaps_lengths : (set : ℕ) (P : Params) (sk ct key work : ℕ) → decaps_status set P sk ct key work ≡ 0
    → DecapsLengths set P sk ct key work
unfolding decaps_status
decaps_lengths set P sk ct key work e =
    let c1 = zero_check (not (is_set set)) 1 (omega arith) e in
    let c2 = zero_check _ 2 (omega arith) c1.1 in
    let c3 = zero_check _ 2 (omega arith) c2.1 in
    let c4 = zero_check _ 4 (omega arith) c3.1 in
    let c5 = zero_check _ 4 (omega arith) c4.1 in
    record {
      there = not-false _ c1.0;
      secret_long = same_length c2.0;
      cipher_long = same_length c3.0;
      key_long = same_length c4.0;
      work_long = ltb-false _ _ c5.0;
    }

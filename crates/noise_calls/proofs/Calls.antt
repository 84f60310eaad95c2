-- The checks of lengths of noise and choose: where their status is 0, the lengths are what the inner function asks, and the
-- answer is the one for lengths that fit. Assumes nothing.
use mathlib.Core.Path.{◌≡◌}
use mathlib.Core.Bool.{true, not}
use mathlib.Core.List.{List}
use Prim.Native.Nat.{ℕ, ◌≤◌, ◌<◌}
use native.Mathlib.Omega.{arith}
use borrow.Author.Tests.{ltb-false, leb-false, not-false}
use lib.ListN.{length}
use Rattle.kindi.specs.declared.Params.{Params}
use Rattle.kindi.specs.Params.{is_set, of_set, secret_length, padded_length, noise_work}
use Rattle.kindi.specs.Answers.{noise_of, choose, is_list, coins_count}
use Rattle.kindi.specs.Calls.{in_set, noise_call, choose_call}
use Rattle.kindi.proofs.Chains.{same_length}
use Rattle.calls.proofs.Ends.{too_short}
use Rattle.calls.proofs.Checked.{Checked, unchecked, check_first, zero_check}
use Rattle.noise_calls.specs.Status.{noise_status, choose_status, whole_coins}
use Rattle.noise_calls.specs.Fitting.{noise_fitting, choose_fitting}

-- ---- noise

-- The status of the lengths says what the answer is.
pub noise-checked : (set : ℕ) (sk coins message : List ℕ) (work : ℕ)
    → Checked (noise_call set sk coins message work) (noise_fitting (of_set set) sk coins message)
    (noise_status set (of_set set) (length sk) (length coins) (length message) work)
unfolding noise_call in_set noise_of noise_fitting noise_status
noise-checked set sk coins message work =
    rw (← too_short (noise_work (of_set set)) work)
    (check_first (not (is_set set)) 1 (omega arith)
    (check_first _ 2 (omega arith)
    (check_first _ 2 (omega arith)
    (check_first _ 3 (omega arith) (check_first _ 4 (omega arith) unchecked)))))

-- What status 0 says of the lengths.
pub record NoiseLengths (set : ℕ) (P : Params) (sk coins message work : ℕ) : Type 0 where
  pub there : is_set set ≡ true
  pub secret_long : sk ≡ secret_length P
  pub coins_long : coins ≡ P.coins
  pub message_fits : message < padded_length P
  pub work_long : noise_work P ≤ work

pub noise_lengths : (set : ℕ) (P : Params) (sk coins message work : ℕ) → noise_status set P sk coins message work ≡ 0
    → NoiseLengths set P sk coins message work
unfolding noise_status
noise_lengths set P sk coins message work e =
    let c1 = zero_check (not (is_set set)) 1 (omega arith) e in
    let c2 = zero_check _ 2 (omega arith) c1.1 in
    let c3 = zero_check _ 2 (omega arith) c2.1 in
    let c4 = zero_check _ 3 (omega arith) c3.1 in
    let c5 = zero_check _ 4 (omega arith) c4.1 in
    record {
      there = not-false _ c1.0;
      secret_long = same_length c2.0;
      coins_long = same_length c3.0;
      message_fits = leb-false _ _ c4.0;
      work_long = ltb-false _ _ c5.0;
    }

-- ---- choose

pub choose-checked : (set : ℕ) (sk message list : List ℕ) (work : ℕ)
    → Checked (choose_call set sk message list work) (choose_fitting (of_set set) sk message list)
    (choose_status set (of_set set) (length sk) (length message) (length list) work)
unfolding choose_call in_set choose is_list coins_count choose_fitting choose_status
choose-checked set sk message list work =
    rw (← too_short (noise_work (of_set set)) work)
    (check_first (not (is_set set)) 1 (omega arith)
    (check_first _ 2 (omega arith)
    (check_first _ 2 (omega arith)
    (check_first _ 3 (omega arith) (check_first _ 4 (omega arith) unchecked)))))

-- What status 0 says of the lengths.
pub record ChooseLengths (set : ℕ) (P : Params) (sk message list work : ℕ) : Type 0 where
  pub there : is_set set ≡ true
  pub secret_long : sk ≡ secret_length P
  pub coins_whole : whole_coins P.coins list ≡ true
  pub message_fits : message < padded_length P
  pub work_long : noise_work P ≤ work

pub choose_lengths : (set : ℕ) (P : Params) (sk message list work : ℕ) → choose_status set P sk message list work ≡ 0
    → ChooseLengths set P sk message list work
unfolding choose_status
choose_lengths set P sk message list work e =
    let c1 = zero_check (not (is_set set)) 1 (omega arith) e in
    let c2 = zero_check _ 2 (omega arith) c1.1 in
    let c3 = zero_check _ 2 (omega arith) c2.1 in
    let c4 = zero_check _ 3 (omega arith) c3.1 in
    let c5 = zero_check _ 4 (omega arith) c4.1 in
    record {
      there = not-false _ c1.0;
      secret_long = same_length c2.0;
      coins_whole = not-false _ c3.0;
      message_fits = leb-false _ _ c4.0;
      work_long = ltb-false _ _ c5.0;
    }

-- The checks of encrypt_each, and its exits: what the code knows of its parameters, its status, the comparison of the coins and
-- what the inner function leaves gives what the call ensures; and before that, what the inner functions ask. Assumes nothing.
use mathlib.Core.Path.{◌≡◌, refl, sym, ◌∙◌}
use mathlib.Core.Bool.{Bool, true, false, cond, not, ◌&&◌}
use mathlib.Core.List.{List}
use Prim.Native.Nat.{ℕ, ◌*◌, ◌≤◌, ◌<◌}
use native.Mathlib.Omega.{arith}
use borrow.Author.Tests.{leb-false, ltb-false, not-false}
use lib.Dec.{eqb, leb}
use lib.ListN.{length}
use Rattle.std.specs.Prelude.{Result}
use Rattle.std.specs.Result.{IsErrAnd}
use Rattle.calls.specs.declared.refusal.Refusal.{Refusal}
use Rattle.calls.specs.declared.refusal.Refusal.TheVariants.{EqualCoins}
use Rattle.calls.specs.Refusals.{number_of, status_of}
use Rattle.kindi.specs.declared.Params.{Params}
use Rattle.kindi.specs.Params.{Parameters, is_set, of_set, public_length, ciphertext_length, padded_length, encrypt_work}
use Rattle.kindi.specs.Answers.{Answer, refused, answered, refuse_if, differs, is_count, equal_coins, ciphertexts, encrypt_each}
use Rattle.kindi.specs.Calls.{work_after, in_set, encrypt_each_call}
use Rattle.kindi.proofs.Chains.{same_length}
use Rattle.calls.proofs.Ends.{check_both, too_short, given, wiped_any}
use Rattle.calls.proofs.Checked.{Checked, unchecked, check_first, zero_check, refused_number, refused_output, answered_number}
use Rattle.calls.proofs.Refused.{refused_status, refusal_not_0}
use Rattle.recipients.specs.Status.{encrypt_each_status}
use Rattle.recipients.specs.Rooms.{PartsRoom}
use Rattle.recipients.specs.Exits.{EncryptEachExit}

-- ---- the status

-- The checks of the output and of the work area are one, of the room.
each_room : (set count : ℕ) (P : Params) (keys list message cts work : ℕ) → encrypt_each_status set P count keys list message cts work
    ≡ cond (not (is_set set)) 1 (cond (not (is_count count)) 13 (cond (differs keys (count * public_length P)) 2
    (cond (differs list (count * P.coins)) 2 (cond (leb (padded_length P) message) 3
    (cond (not (eqb cts (count * ciphertext_length P) && leb (encrypt_work P) work)) 4 0)))))
unfolding encrypt_each_status
each_room set count P keys list message cts work = simp (check_both, too_short)

-- The answer once the number of recipients and the lengths are checked: refusal 14, or the ciphertexts.
abbrev each_fitting : Params → ℕ → List ℕ → List ℕ → List ℕ → Answer (List ℕ)
each_fitting P count keys list message = refuse_if (equal_coins P count list) 14 (answered (ciphertexts P count keys list message))

-- The status says what the answer is.
each_checked : (set count : ℕ) (keys list message : List ℕ) (cts work : ℕ)
    → Checked (encrypt_each_call set count keys list message cts work) (each_fitting (of_set set) count keys list message)
    (encrypt_each_status set (of_set set) count (length keys) (length list) (length message) cts work)
unfolding encrypt_each_call in_set encrypt_each
each_checked set count keys list message cts work =
    rw (each_room set count (of_set set) (length keys) (length list) (length message) cts work)
    (check_first (not (is_set set)) 1 (omega arith)
    (check_first (not (is_count count)) 13 (omega arith)
    (check_first _ 2 (omega arith)
    (check_first _ 2 (omega arith) (check_first _ 3 (omega arith) (check_first _ 4 (omega arith) unchecked))))))

-- What status 0 says.
record EachLengths (set count : ℕ) (P : Params) (keys list message cts work : ℕ) : Type 0 where
  there : is_set set ≡ true
  keys_long : keys ≡ count * public_length P
  coins_long : list ≡ count * P.coins
  message_fits : message < padded_length P
  ciphers_long : cts ≡ count * ciphertext_length P
  work_long : encrypt_work P ≤ work

each_lengths : (set count : ℕ) (P : Params) (keys list message cts work : ℕ) → encrypt_each_status set P count keys list message cts work ≡ 0
    → EachLengths set count P keys list message cts work
unfolding encrypt_each_status
each_lengths set count P keys list message cts work e =
    let c1 = zero_check (not (is_set set)) 1 (omega arith) e in
    let c2 = zero_check (not (is_count count)) 13 (omega arith) c1.1 in
    let c3 = zero_check _ 2 (omega arith) c2.1 in
    let c4 = zero_check _ 2 (omega arith) c3.1 in
    let c5 = zero_check _ 3 (omega arith) c4.1 in
    let c6 = zero_check _ 4 (omega arith) c5.1 in
    let c7 = zero_check _ 4 (omega arith) c6.1 in
    record {
      there = not-false _ c1.0;
      keys_long = same_length c3.0;
      coins_long = same_length c4.0;
      message_fits = leb-false _ _ c5.0;
      ciphers_long = same_length c6.0;
      work_long = ltb-false _ _ c7.0;
    }

-- ---- the exits

not-true : (b : Bool) → not b ≡ true → b ≡ false
not-true true e = sym e
not-true false e = refl

module _ {set : ℕ} {P : Params} (count : ℕ) (keys list message cts work : List ℕ) (p : Parameters set P) where
  -- What the checks say of the answer.
  each_behind : {s : ℕ} → s ≡ encrypt_each_status set P count (length keys) (length list) (length message) (length cts) (length work)
      → Checked (encrypt_each_call set count keys list message (length cts) (length work)) (each_fitting P count keys list message) s
  each_behind is = rw (is, p.are) (each_checked set count keys list message (length cts) (length work))

  -- The exit of a refusal.
  refusal : {A : Type 0} (r : Result A Refusal) (e : Refusal)
      → encrypt_each_call set count keys list message (length cts) (length work) ≡ refused (number_of e) → IsErrAnd r (λ f. f ≡ e)
      → EncryptEachExit set count keys list message cts work (status_of r) cts (work_after set (encrypt_work (of_set set)) work)
  refusal r e is-refused passed = record {
    returned = refused_status r e passed ∙ refused_number is-refused;
    ciphertexts = refused_output (λ c. c) cts is-refused;
    wiped = refl;
  }

  -- By the number of recipients or the lengths.
  pub each_refused : {A : Type 0} (r : Result A Refusal) (e : Refusal)
      → number_of e ≡ encrypt_each_status set P count (length keys) (length list) (length message) (length cts) (length work)
      → IsErrAnd r (λ f. f ≡ e)
      → EncryptEachExit set count keys list message cts work (status_of r) cts (work_after set (encrypt_work (of_set set)) work)
  each_refused r e is passed = refusal r e ((each_behind is).refuses (refusal_not_0 e)) passed

  each_long : 0 ≡ encrypt_each_status set P count (length keys) (length list) (length message) (length cts) (length work)
      → EachLengths set count P (length keys) (length list) (length message) (length cts) (length work)
  each_long is = each_lengths set count P (length keys) (length list) (length message) (length cts) (length work) (sym is)

  -- Where no check refuses, the coins may be compared, and the inner function may be called.
  pub each_coins_long : 0 ≡ encrypt_each_status set P count (length keys) (length list) (length message) (length cts) (length work)
      → length list ≡ count * P.coins
  each_coins_long is = (each_long is).coins_long

  pub each_fits : 0 ≡ encrypt_each_status set P count (length keys) (length list) (length message) (length cts) (length work)
      → PartsRoom P count keys list message cts work
  each_fits is =
      let long = each_long is in
      record {
        well = p.well;
        keys_long = long.keys_long;
        coins_long = long.coins_long;
        message_fits = long.message_fits;
        ciphers_long = long.ciphers_long;
        work_long = long.work_long;
      }

  -- What is known of the answer once the coins are compared.
  coins_checked : (found : Bool) → 0 ≡ encrypt_each_status set P count (length keys) (length list) (length message) (length cts) (length work)
      → found ≡ equal_coins P count list
      → Checked (encrypt_each_call set count keys list message (length cts) (length work))
      (answered (ciphertexts P count keys list message)) (cond found 14 0)
  coins_checked found is compared = rw ((each_behind is).goes_on refl, compared) (check_first (equal_coins P count list) 14 (omega arith) unchecked)

  -- The exit of refusal 14.
  pub each_equal : {A : Type 0} (r : Result A Refusal) (e : Refusal) (found : Bool)
      → 0 ≡ encrypt_each_status set P count (length keys) (length list) (length message) (length cts) (length work)
      → found ≡ equal_coins P count list → (not found ≡ false) × (e ≡ EqualCoins) → IsErrAnd r (λ f. f ≡ e)
      → EncryptEachExit set count keys list message cts work (status_of r) cts (work_after set (encrypt_work (of_set set)) work)
  each_equal r e found is compared bad passed =
      let some : found ≡ true = not-false found bad.0 in
      let second : number_of e ≡ cond found 14 0 = rw (bad.1, some) in
      refusal r e (rw second ((coins_checked found is compared).refuses (λ z. refusal_not_0 e (second ∙ z)))) passed

  -- The exit of success; `left` is what the inner function leaves in the work area.
  pub each_exit : (left : List ℕ) {cts' : List ℕ} (found : Bool)
      → 0 ≡ encrypt_each_status set P count (length keys) (length list) (length message) (length cts) (length work) → found ≡ equal_coins P count list
      → not found ≡ true
      → cts' ≡ ciphertexts P count keys list message → length left ≡ length work
      → EncryptEachExit set count keys list message cts work 0 cts' (work_after set (encrypt_work (of_set set)) left)
  each_exit left found is compared good made l =
      let long = each_long is in
      let none : found ≡ false = not-true found good in
      let answer = (coins_checked found is compared).goes_on (rw none) in
      record {
        returned = answered_number answer;
        ciphertexts = made ∙ given (λ c. c) cts answer;
        wiped = wiped_any set _ left work long.there (rw (← p.are) long.work_long) l;
      }

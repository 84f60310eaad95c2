-- Each call's status is the number of its answer; where it is 0, the lengths are what the inner function asks, and the answer
-- is its values. Assumes nothing.
use mathlib.Core.Path.{◌≡◌, ◌∙◌}
use mathlib.Core.Bool.{true, not}
use mathlib.Core.List.{List}
use Prim.Native.Nat.{ℕ}
use native.Mathlib.Omega.{arith}
use borrow.Author.Tests.{eqb-true, leb-true, leb-false, not-false}
use lib.ListN.{length}
use Rattle.kindi.specs.declared.Params.{Params}
use Rattle.kindi.specs.Params.{is_set, of_set}
use Rattle.kindi.specs.Keys.{public_key, secret_key}
use Rattle.kindi.specs.Encrypt.{ciphertext}
use Rattle.kindi.specs.Kem.{digest, shared_key}
use Rattle.kindi.specs.Answers.{Answer, answered, Keys, Shared, keygen, encrypt, encaps}
use Rattle.kindi.specs.Calls.{number, in_set, keygen_call, encrypt_call, encaps_call}
use Rattle.kindi.proofs.Chains.{same_length, both}
use Rattle.kindi.proofs.Sets.{of_set_well}
use Rattle.calls.proofs.Ends.{number_check, check_both, too_short, accepted}
use Rattle.keys.specs.Inputs.{KeygenRoom}
use Rattle.encryption.specs.Inputs.{EncryptRoom}
use Rattle.encryption_calls.specs.Status.{keygen_status, encrypt_status, encaps_status}

-- What status 0 says: there is such a set, the lengths fit, and the answer is these values.
pub record Done {A : Type 0} (set : ℕ) (Fit : Type 0) (answer : Answer A) (values : A) : Type 0 where
  pub there : is_set set ≡ true
  pub fit : Fit
  pub answers : answer ≡ answered values

-- The values of keygen and of encapsulation.
abbrev pub keys : Params → List ℕ → List ℕ → List ℕ → Keys
keys P μ γ z = record { public_key = public_key P μ γ; secret_key = secret_key P μ γ z }

abbrev pub shared : Params → List ℕ → List ℕ → Shared
shared P pk coins =
    let ct = ciphertext P pk coins (digest P coins) in
    record { key = shared_key P coins ct; ciphertext = ct }

-- ---- encrypt

-- The status is the number of the answer.
pub encrypt_status_lem : (set : ℕ) (pk coins message : List ℕ) (room work : ℕ)
    → encrypt_status set (of_set set) (length pk) (length coins) (length message) room work
    ≡ number (encrypt_call set pk coins message room work)
unfolding encrypt_status encrypt_call in_set encrypt number
encrypt_status_lem set pk coins message room work = simp (number_check, check_both, too_short)

-- Status 0.
pub encrypt_done : (set : ℕ) (pk coins message ct work : List ℕ)
    → number (encrypt_call set pk coins message (length ct) (length work)) ≡ 0
    → Done set (EncryptRoom (of_set set) pk coins message ct work) (encrypt_call set pk coins message (length ct) (length work))
    (ciphertext (of_set set) pk coins message)
unfolding encrypt_call in_set encrypt
encrypt_done set pk coins message ct work e =
    let c1 = accepted (not (is_set set)) 1 _ (omega arith) e in
    let c2 = accepted _ 2 _ (omega arith) c1.rest in
    let c3 = accepted _ 2 _ (omega arith) c2.rest in
    let c4 = accepted _ 3 _ (omega arith) c3.rest in
    let c5 = accepted _ 4 _ (omega arith) c4.rest in
    let room = both _ _ (not-false _ c5.good) in
    record {
      there = not-false _ c1.good;
      fit = record {
        well = of_set_well set;
        public_long = same_length c2.good;
        coins_long = same_length c3.good;
        message_fits = leb-false _ _ c4.good;
        cipher_long = eqb-true _ _ room.0;
        work_long = leb-true _ _ room.1;
      };
      answers = c1.is ∙ c2.is ∙ c3.is ∙ c4.is ∙ c5.is;
    }

-- ---- encaps

-- The status is the number of the answer.
pub encaps_status_lem : (set : ℕ) (pk coins : List ℕ) (key ct work : ℕ)
    → encaps_status set (of_set set) (length pk) (length coins) key ct work ≡ number (encaps_call set pk coins key ct work)
unfolding encaps_status encaps_call in_set encaps number
encaps_status_lem set pk coins key ct work = simp (number_check, check_both, too_short)

-- Status 0; the key's buffer is as long as the digest, which is a message that fits.
pub encaps_done : (set : ℕ) (pk coins key ct work : List ℕ)
    → number (encaps_call set pk coins (length key) (length ct) (length work)) ≡ 0
    → Done set ((length key ≡ (of_set set).coins) × EncryptRoom (of_set set) pk coins key ct work)
    (encaps_call set pk coins (length key) (length ct) (length work)) (shared (of_set set) pk coins)
unfolding encaps_call in_set encaps
encaps_done set pk coins key ct work e =
    let c1 = accepted (not (is_set set)) 1 _ (omega arith) e in
    let c2 = accepted _ 2 _ (omega arith) c1.rest in
    let c3 = accepted _ 2 _ (omega arith) c2.rest in
    let c4 = accepted _ 4 _ (omega arith) c3.rest in
    let room = both _ _ (not-false _ c4.good) in
    let rooms = both _ _ room.1 in
    let long : length key ≡ (of_set set).coins = eqb-true _ _ room.0 in
    let well = of_set_well set in
    record {
      there = not-false _ c1.good;
      fit = (
        long,
        record {
          well = well;
          public_long = same_length c2.good;
          coins_long = same_length c3.good;
          message_fits = rw long well.digest_fits;
          cipher_long = eqb-true _ _ rooms.0;
          work_long = leb-true _ _ rooms.1;
        },
      );
      answers = c1.is ∙ c2.is ∙ c3.is ∙ c4.is;
    }

-- ---- keygen

-- The status is the number of the answer.
pub keygen_status_lem : (set : ℕ) (μ γ z : List ℕ) (pk sk work : ℕ)
    → keygen_status set (of_set set) (length μ) (length γ) (length z) pk sk work ≡ number (keygen_call set μ γ z pk sk work)
unfolding keygen_status keygen_call in_set keygen number
keygen_status_lem set μ γ z pk sk work = simp (number_check, check_both, too_short)

-- Status 0.
pub keygen_done : (set : ℕ) (μ γ z pk sk work : List ℕ)
    → number (keygen_call set μ γ z (length pk) (length sk) (length work)) ≡ 0
    → Done set (KeygenRoom (of_set set) μ γ z pk sk work) (keygen_call set μ γ z (length pk) (length sk) (length work))
    (keys (of_set set) μ γ z)
unfolding keygen_call in_set keygen
keygen_done set μ γ z pk sk work e =
    let c1 = accepted (not (is_set set)) 1 _ (omega arith) e in
    let c2 = accepted _ 2 _ (omega arith) c1.rest in
    let c3 = accepted _ 2 _ (omega arith) c2.rest in
    let c4 = accepted _ 2 _ (omega arith) c3.rest in
    let c5 = accepted _ 4 _ (omega arith) c4.rest in
    let room = both _ _ (not-false _ c5.good) in
    let rooms = both _ _ room.1 in
    record {
      there = not-false _ c1.good;
      fit = record {
        well = of_set_well set;
        μ_long = same_length c2.good;
        γ_long = same_length c3.good;
        z_long = same_length c4.good;
        public_long = eqb-true _ _ room.0;
        secret_long = eqb-true _ _ rooms.0;
        work_long = leb-true _ _ rooms.1;
      };
      answers = c1.is ∙ c2.is ∙ c3.is ∙ c4.is ∙ c5.is;
    }

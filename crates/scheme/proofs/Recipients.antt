-- One message for several recipients (02, No. 1), of what the calls of `src/lib.rt` leave, in the words of Demand3. P is the parameter
-- record of the set; the set and the number of recipients may be any numbers. Of coins, a message and a ciphertext nothing is asked
-- but that they are bytes. Assumes nothing.
use mathlib.Core.Path.{◌≡◌, refl, sym, ◌∙◌}
use mathlib.Core.Bool.{true}
use mathlib.Core.List.{List}
use Prim.Native.Nat.{ℕ, ◌<◌}
use native.Mathlib.Omega.{arith}
use Rattle.bits.specs.Bits.{Below}
use Rattle.kindi.specs.declared.Params.{Params}
use Rattle.kindi.specs.Both.{Iff}
use Rattle.kindi.specs.Params.{is_set, of_set}
use Rattle.kindi.specs.Keys.{public_part}
use Rattle.kindi.specs.Noise.{clear}
use Rattle.kindi.specs.Answers.{answered, recovered_coins, key_at, coins_at, ciphertext_at}
use Rattle.kindi.specs.Recipients.{EachFits, TwoEqual}
use Rattle.kindi.proofs.Sets.{of_set_well}
use Rattle.kindi.proofs.Recipients.{each_part, each_own, each_below, each_equal_iff, clear_each_returns}
use Rattle.scheme.specs.Leaves.{KeygenLeaves, EncryptLeaves, EncryptEachLeaves, DecryptLeaves, IsPair}
use Rattle.scheme.proofs.Left as Left
use Rattle.scheme.proofs.Demand3.{decrypt_call_iff}

module _ (set : ℕ) where
  abbrev P : Params
  P = of_set set

  module _ {count : ℕ} {keys list message cts : List ℕ} (sealed : EncryptEachLeaves set count keys list message 0 cts)
      {i : ℕ} (there : i < count) where
    -- Each ciphertext equals the one that the single call gives: part i is what a call of encrypt with key i, coins i and the message
    -- leaves, and by `encrypt_call_one` what every such call leaves.
    pub each_call_part : EncryptLeaves set (key_at P keys i) (coins_at P list i) message 0 (ciphertext_at P cts i)
    each_call_part =
        let made = Left.encrypt_each_zero set sealed refl in
        Left.encrypt-some set made.0 (each_part P (of_set_well set) count keys list message cts made.1 i there)

    -- If the pair of recipient i is clear, whatever seeds its keys were made from and whoever the others are, it decrypts part i to
    -- exactly these coins and this message. So where each pair is clear, every recipient opens its own part to that message.
    pub each_call_returns : {μ γ z sk : List ℕ} {status : ℕ} {coins' message' : List ℕ} {len' : ℕ}
        → Below 256 list → Below 256 message
        → KeygenLeaves set μ γ z 0 (key_at P keys i) sk → clear P μ γ (coins_at P list i) message ≡ true
        → DecryptLeaves set sk (ciphertext_at P cts i) status coins' message' len'
        → IsPair set (coins_at P list i) message status coins' message' len'
    each_call_returns {μ} {γ} {z} {sk} list-bytes message-bytes made is-clear call =
        let keys-made = Left.keygen-zero set made refl in
        Left.decrypt_leaves set keys-made.0
        (clear_each_returns P (of_set_well set) count keys list message cts (Left.encrypt_each_zero set sealed refl).1 i there μ γ z
        (record { public_key = key_at P keys i; secret_key = sk }) list-bytes message-bytes keys-made.1 refl is-clear) call

    -- Decryption of a part is strict as that of any ciphertext, under any secret key: it gives (coins, m) exactly when the coins are
    -- the ones found by rounding and encrypting m with them under the stored public key gives that part.
    pub each_call_strict : {sk coins m : List ℕ} {status : ℕ} {coins' message' : List ℕ} {len' : ℕ} → Below 256 m
        → DecryptLeaves set sk (ciphertext_at P cts i) status coins' message' len'
        → Iff (IsPair set coins m status coins' message' len')
        ((recovered_coins P sk (ciphertext_at P cts i) ≡ answered coins)
        × EncryptLeaves set (public_part P sk) coins m 0 (ciphertext_at P cts i))
    each_call_strict m-bytes call =
        decrypt_call_iff set
        (each_below P (of_set_well set) count keys list message cts (Left.encrypt_each_zero set sealed refl).1 i there) m-bytes call

  -- A part depends on no other recipient's key or coins: two calls that returned 0 and agree on the message and on a recipient's key
  -- and coins leave it the same part, whatever their numbers are and wherever it stands in them.
  pub each_call_own : {count count₂ : ℕ} {keys keys₂ list list₂ message cts cts₂ : List ℕ} {i j : ℕ}
      → EncryptEachLeaves set count keys list message 0 cts → EncryptEachLeaves set count₂ keys₂ list₂ message 0 cts₂
      → i < count → j < count₂ → key_at P keys i ≡ key_at P keys₂ j → coins_at P list i ≡ coins_at P list₂ j
      → ciphertext_at P cts i ≡ ciphertext_at P cts₂ j
  each_call_own sealed sealed₂ h l same_key same-coins =
      each_own P (of_set_well set) _ _ _ _ _ _ _ _ _ _ _ (Left.encrypt_each_zero set sealed refl).1
      (Left.encrypt_each_zero set sealed₂ refl).1 h l same_key same-coins

  -- 14 is exactly that some two recipients have equal coins, at any two places, where the checks before it are passed.
  pub each_call_equal : {count : ℕ} {keys list message : List ℕ} {status : ℕ} {cts : List ℕ}
      → EncryptEachLeaves set count keys list message status cts
      → Iff (status ≡ 14) ((is_set set ≡ true) × EachFits P true count keys list message × TwoEqual P count list)
  each_call_equal {count} {keys} {list} {message} call =
      let iff = each_equal_iff P true count keys list message in
      record {
        forth = λ e.
            let here = Left.encrypt_each_there set call (λ one. omega (arith, one, e)) in
            let found = iff.forth (sym (Left.encrypt_each_told set call here) ∙ e) in
            (here, found.0, found.1);
        back = λ h. Left.encrypt_each_told set call h.0 ∙ iff.back (h.1, h.2);
      }

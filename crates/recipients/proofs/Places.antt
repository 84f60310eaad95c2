-- Laws of strings that are read and written part by part: the place of each part, what is gathered over them, and the ciphertexts,
-- one after another. Assumes nothing.
use mathlib.Core.Path.{◌≡◌, refl, sym, ap, ap₂, ◌∙◌}
use mathlib.Core.Bool.{Bool, false, ◌||◌}
use mathlib.Core.List.{List, ◌++◌}
use Prim.Native.Nat.{ℕ, ◌+◌, ◌-◌, ◌*◌, ◌≤◌, ◌<◌, zero-le}
use native.Mathlib.Nat.{zero-mul, add-mul, one-mul}
use native.Mathlib.Omega.{arith}
use borrow.Rule.Slice.PartMut.{same_len_mid}
use lib.ListN.{length, take, drop}
use Rattle.keccak.specs.Lists.{tabulate, patched}
use Rattle.kindi.specs.declared.Params.{Params}
use Rattle.kindi.specs.Params.{public_length, ciphertext_length}
use Rattle.kindi.specs.Keys.{joined}
use Rattle.kindi.specs.Encrypt.{ciphertext}
use Rattle.kindi.specs.Answers.{some, part_at, key_at, coins_at, ciphertexts}
use Rattle.kindi.proofs.Lists.{some_more, parts_within}
use Rattle.kindi.proofs.Made.{length-ciphertext}
use Rattle.kindi.proofs.Strings.{length-joined}
use Rattle.vectors.proofs.Amounts.{part_length}
use Rattle.vectors.proofs.Joining.{joined_none, joined_turn, joined_end}
use Rattle.encryption.specs.Inputs.{EncryptRoom}
use Rattle.recipients.specs.Rooms.{PartsRoom}

-- ---- the place of part i

module _ (i : ℕ) {long part at : ℕ} (sized : part ≡ long) (is : at ≡ i * long) where
  -- The next part stands behind it.
  pub place_next : at + part ≡ (i + 1) * long
  place_next = ap₂ ◌+◌ is (sized ∙ sym (one-mul long)) ∙ sym (add-mul i 1 long)

  -- It lies within a string of m parts.
  pub place_fits : {m : ℕ} (string : List ℕ) → m * long ≤ length string → i < m → at + part ≤ length string
  place_fits string room h = omega (arith, parts_within long h, sized, is, room)

  -- It is what the code reads there.
  pub place_part : (string : List ℕ) → take (at + part - at) (drop at string) ≡ part_at long string i
  place_part string =
      let count : at + part - at ≡ long = omega arith in
      ap₂ (λ (n a : ℕ). take n (drop a string)) count is

-- Part i of a string of m parts lies within it.
pub part_fits : {i m : ℕ} (long : ℕ) (string : List ℕ) → m * long ≤ length string → i < m → i * long + long ≤ length string
part_fits long string room h = omega (arith, parts_within long h, room)

-- ---- what is gathered

-- After i of the parts of a string, each of which a test is made of.
pub record Gathering (f : ℕ → Bool) (count i : ℕ) (found : Bool) : Type 0 where
  pub within : i ≤ count
  pub found_is : found ≡ some (tabulate i f)

module _ {f : ℕ → Bool} {count : ℕ} where
  pub gathering_begun : Gathering f count 0 false
  unfolding some tabulate
  gathering_begun = record { within = zero-le; found_is = refl }

  module _ {i : ℕ} {found : Bool} (h : Gathering f count i found) where
    -- One part more.
    pub gathering_more : {test : Bool} → i < count → test ≡ f i → Gathering f count (i + 1) (found || test)
    gathering_more in-it is = record {
      within = omega arith;
      found_is = ap₂ ◌||◌ h.found_is is ∙ sym (some_more i f);
    }

    -- After the last part.
    pub gathering_all : count ≤ i → found ≡ some (tabulate count f)
    gathering_all last =
        let all : i ≡ count = omega (arith, h.within) in
        h.found_is ∙ ap (λ (n : ℕ). some (tabulate n f)) all

-- ---- the ciphertexts

-- The ciphertext of recipient i.
abbrev pub part_of : Params → List ℕ → List ℕ → List ℕ → ℕ → List ℕ
part_of P keys list message i = ciphertext P (key_at P keys i) (coins_at P list i) message

-- After i recipients: the first i ciphertexts are there.
pub record Sealing (P : Params) (count : ℕ) (keys list message cts₀ work₀ cts work : List ℕ) (i : ℕ) : Type 0 where
  pub room : PartsRoom P count keys list message cts₀ work₀
  pub within : i ≤ count
  pub work_same : length work ≡ length work₀
  pub long : length cts ≡ length cts₀
  pub written : cts ≡ joined i (part_of P keys list message) ++ drop (i * ciphertext_length P) cts₀

module _ {P : Params} {count : ℕ} {keys list message cts₀ work₀ : List ℕ} where
  pub sealing_begun : PartsRoom P count keys list message cts₀ work₀ → Sealing P count keys list message cts₀ work₀ cts₀ work₀ 0
  sealing_begun room = record {
    room = room;
    within = zero-le;
    work_same = refl;
    long = refl;
    written = rw (zero-mul (ciphertext_length P)) (joined_none (part_of P keys list message) cts₀);
  }

  module _ {cts work : List ℕ} {i : ℕ} (h : Sealing P count keys list message cts₀ work₀ cts work i) where
    -- The lengths of the parts as the code has them.
    module _ {key part : ℕ} (in-it : i < count) (key-sized : key ≡ public_length P) (part-sized : part ≡ ciphertext_length P) where
      key_place : i * key ≡ i * public_length P
      key_place = ap (λ (n : ℕ). i * n) key-sized

      place : i * part ≡ i * ciphertext_length P
      place = ap (λ (n : ℕ). i * n) part-sized

      -- The next recipient's parts lie within their strings.
      pub key_there : i * key + key ≤ length keys
      key_there = place_fits i key-sized key_place keys (omega (arith, h.room.keys_long)) in-it

      pub coins_there : i * P.coins + P.coins ≤ length list
      coins_there = place_fits i refl refl list (omega (arith, h.room.coins_long)) in-it

      pub part_there : i * part + part ≤ length cts
      part_there = place_fits i part-sized place cts (omega (arith, h.long, h.room.ciphers_long)) in-it

      -- So encryption to that recipient may be called.
      pub sealing_room : EncryptRoom P (take (i * key + key - i * key) (drop (i * key) keys))
          (take (i * P.coins + P.coins - i * P.coins) (drop (i * P.coins) list)) message
          (take (i * part + part - i * part) (drop (i * part) cts)) work
      sealing_room = record {
        well = h.room.well;
        public_long = part_length (i * key) key keys key_there ∙ key-sized;
        coins_long = part_length (i * P.coins) P.coins list coins_there;
        message_fits = h.room.message_fits;
        cipher_long = part_length (i * part) part cts part_there ∙ part-sized;
        work_long = omega (arith, h.room.work_long, h.work_same);
      }

      -- And its ciphertext is the next one.
      pub sealing_more : {ct work' : List ℕ} → length ct ≡ length (take (i * part + part - i * part) (drop (i * part) cts))
          → length work' ≡ length work
          → ct ≡ ciphertext P (take (i * key + key - i * key) (drop (i * key) keys))
          (take (i * P.coins + P.coins - i * P.coins) (drop (i * P.coins) list)) message
          → Sealing P count keys list message cts₀ work₀ (patched (i * part) (i * part + part - i * part) ct cts) work' (i + 1)
      unfolding key_at coins_at
      sealing_more {ct} cipher_long work_long is = record {
        room = h.room;
        within = omega arith;
        work_same = work_long ∙ h.work_same;
        long = same_len_mid (i * part) (i * part + part - i * part) cts ct cipher_long ∙ h.long;
        written = joined_turn i (i * part) part (part_of P keys list message) cts₀ cts ct
            (length-joined i (ciphertext_length P) (part_of P keys list message)
            (λ j _. length-ciphertext P (key_at P keys j) (coins_at P list j) message h.room.well) ∙ sym place)
            (h.written ∙ ap (λ (n : ℕ). joined i (part_of P keys list message) ++ drop n cts₀) (sym place))
            (is ∙ ap₂ (λ (k c : List ℕ). ciphertext P k c message) (place_part i key-sized key_place keys) (place_part i refl refl list))
            ∙ ap (λ (n : ℕ). joined (i + 1) (part_of P keys list message) ++ drop n cts₀) (place_next i part-sized place);
      }

    -- After the last recipient.
    pub sealing_all : count ≤ i → cts ≡ ciphertexts P count keys list message
    unfolding ciphertexts
    sealing_all last =
        let all : i ≡ count = omega (arith, h.within) in
        joined_end i (i * ciphertext_length P) (part_of P keys list message) cts₀ cts
        (rw all (omega (arith, h.room.ciphers_long))) h.written
        ∙ ap (λ (m : ℕ). joined m (part_of P keys list message)) all

-- Laws of answers: a chain of checks succeeds exactly where each check passes; what success of each call says. Assumes nothing.
use mathlib.Core.Path.{◌≡◌, refl, sym, subst, ap, ap₂, ◌∙◌}
use mathlib.Core.Bool.{Bool, true, false, not, ◌&&◌}
use mathlib.Core.List.{List, [], ◌∷◌, ◌++◌}
use Prim.Native.Nat.{ℕ, ◌<◌}
use native.Mathlib.Omega.{arith}
use borrow.Author.Tests.{eqb-true, eq-eqb, leb-false, lt-leb, not-false}
use lib.Dec.{eqb}
use lib.ListN.{length}
use Rattle.hash.proofs.Laws.{length-shake}
use Rattle.bits.specs.Bits.{Below}
use Rattle.kindi.proofs.Strings.{shake_below}
use Rattle.kindi.specs.declared.Params.{Params}
use Rattle.kindi.specs.Params.{public_length, secret_length, ciphertext_length, padded_length}
use Rattle.kindi.specs.Keys.{public_part, secret_seed}
use Rattle.kindi.specs.Encrypt.{padded, ciphertext}
use Rattle.kindi.specs.Decrypt.{rounded_coins, remainders, errors_fit, unmasked, Ending, blank, marked, other, ending}
use Rattle.kindi.specs.Kem.{digest, shared_key}
use Rattle.kindi.specs.Answers.{Answer, refused, answered, refuse_if, then, differs, Plain, Shared}
use Rattle.kindi.specs.Answers.{encrypt, encaps, recovered_coins, plain, same, decrypt, decaps}

-- ---- chains

-- Two constructors are never equal: `cc` proves that 0 is 1 from such an equation, and this proves anything from that.
pub never : {X : Type 0} → ◌≡◌ {A = ℕ} 0 1 → X
never e = absurd (omega arith)

-- An answer through a check: the check passed, and what came next answers.
pub passed : {A : Type 0} (bad : Bool) (number : ℕ) {next : Answer A} {a : A} → refuse_if bad number next ≡ answered a
    → (bad ≡ false) × (next ≡ answered a)
unfolding refuse_if
passed true number e = never (cc)
passed false number e = (refl, e)

-- A check that passes leaves what comes next.
pub passes : {A : Type 0} {bad : Bool} (number : ℕ) (next : Answer A) → bad ≡ false → refuse_if bad number next ≡ next
unfolding refuse_if
passes number next e = rw e

-- An answer after another: both are given.
pub after_answer : {A B : Type 0} (first : Answer A) (next : A → Answer B) {b : B} → then first next ≡ answered b
    → (a : A) × (first ≡ answered a) × (next a ≡ answered b)
unfolding then
after_answer (refused number) next e = never (cc)
after_answer (answered a) next e = (a, refl, e)

-- What comes after an answer is given it.
pub then_answered : {A B : Type 0} {first : Answer A} (next : A → Answer B) {a : A} → first ≡ answered a → then first next ≡ next a
unfolding then
then_answered next e = rw e

-- Equal answers have equal values.
pub answered_eq : {A : Type 0} {a b : A} → answered a ≡ answered b → a ≡ b
answered_eq e = cc

-- ---- checks

-- A length that does not differ is the one asked for.
pub same_length : {a b : ℕ} → differs a b ≡ false → a ≡ b
same_length {a} {b} e = eqb-true a b (not-false (eqb a b) e)

-- And the one asked for does not differ.
pub length-same : {a b : ℕ} → a ≡ b → differs a b ≡ false
length-same {a} {b} e = ap not (eq-eqb a b e)

-- Both of two tests hold.
pub both : (a b : Bool) → a && b ≡ true → (a ≡ true) × (b ≡ true)
both true b e = (refl, e)
both false b e = never (cc)

-- Lists that are the same are equal.
pub same-eq : (xs ys : List ℕ) → same xs ys ≡ true → xs ≡ ys
unfolding same
same-eq [] [] e = refl
same-eq [] (y ∷ ys) e = never (cc)
same-eq (x ∷ xs) [] e = never (cc)
same-eq (x ∷ xs) (y ∷ ys) e =
    let parts = both (eqb x y) (same xs ys) e in
    ap₂ (λ (z : ℕ) (l : List ℕ). z ∷ l) (eqb-true x y parts.0) (same-eq xs ys parts.1)

-- A list is the same as itself.
pub same_refl : (xs : List ℕ) → same xs xs ≡ true
unfolding same
same_refl [] = refl
same_refl (x ∷ xs) = rw (eq-eqb x x refl) (same_refl xs)

-- Equal lists are the same.
pub eq-same : {xs ys : List ℕ} → xs ≡ ys → same xs ys ≡ true
eq-same {xs} e = rw (← e) (same_refl xs)

-- ---- encrypt and encaps

-- What success of encryption says.
pub record Encrypted (P : Params) (pk coins message ct : List ℕ) : Type 0 where
  pub key_long : length pk ≡ public_length P
  pub coins_long : length coins ≡ P.coins
  pub fits : length message < padded_length P
  pub is : ciphertext P pk coins message ≡ ct

-- An answer of encryption says this.
pub encrypted : (P : Params) (pk coins message ct : List ℕ) → encrypt P true pk coins message ≡ answered ct
    → Encrypted P pk coins message ct
unfolding encrypt
encrypted P pk coins message ct e =
    let c1 = passed _ 2 e in
    let c2 = passed _ 2 c1.1 in
    let c3 = passed _ 3 c2.1 in
    let c4 = passed _ 4 c3.1 in
    record {
      key_long = same_length c1.0;
      coins_long = same_length c2.0;
      fits = leb-false _ _ c3.0;
      is = answered_eq c4.1;
    }

-- And this gives an answer.
pub encrypt_answers : (P : Params) (pk coins message ct : List ℕ) → Encrypted P pk coins message ct
    → encrypt P true pk coins message ≡ answered ct
unfolding encrypt
encrypt_answers P pk coins message ct c =
    passes 2 _ (length-same c.key_long) ∙ passes 2 _ (length-same c.coins_long) ∙ passes 3 _ (lt-leb _ _ c.fits)
    ∙ passes 4 _ refl ∙ ap answered c.is

-- The digest is as long as the coins.
pub length-digest : (P : Params) (coins : List ℕ) → length (digest P coins) ≡ P.coins
unfolding digest
length-digest P coins = length-shake P.rate (coins ++ (4 ∷ [])) P.coins

-- It is made of bytes.
pub digest_below : (P : Params) (coins : List ℕ) → Below 256 (digest P coins)
unfolding digest
digest_below P coins = shake_below P.rate (coins ++ (4 ∷ [])) P.coins

-- Encapsulation answers the encryption of the digest, and the shared key.
pub encapsulated : (P : Params) (pk coins : List ℕ) (shared : Shared) → P.coins < padded_length P
    → encaps P true pk coins ≡ answered shared
    → (encrypt P true pk coins (digest P coins) ≡ answered shared.ciphertext)
    × (shared_key P coins shared.ciphertext ≡ shared.key)
unfolding encaps
encapsulated P pk coins shared fits e =
    let c1 = passed _ 2 e in
    let c2 = passed _ 2 c1.1 in
    let c3 = passed _ 4 c2.1 in
    let is = answered_eq c3.1 in (
      encrypt_answers P pk coins (digest P coins) shared.ciphertext
          (record {
            key_long = same_length c1.0;
            coins_long = same_length c2.0;
            fits = rw (length-digest P coins) fits;
            is = ap (λ (s : Shared). s.ciphertext) is;
          }),
      ap (λ (s : Shared). shared_key P coins s.ciphertext) (sym is) ∙ ap (λ (s : Shared). s.key) is,
    )

-- These two make its answer.
pub encaps_answers : (P : Params) (pk coins key ct : List ℕ) → encrypt P true pk coins (digest P coins) ≡ answered ct
    → shared_key P coins ct ≡ key → encaps P true pk coins ≡ answered (record { key = key; ciphertext = ct })
unfolding encaps
encaps_answers P pk coins key ct e k =
    let c = encrypted P pk coins (digest P coins) ct e in
    passes 2 _ (length-same c.key_long) ∙ passes 2 _ (length-same c.coins_long) ∙ passes 4 _ refl
    ∙ ap₂ (λ (a b : List ℕ). answered (record { key = a; ciphertext = b })) (ap (shared_key P coins) c.is ∙ k) c.is

-- ---- the recovered coins, decrypt and decaps

-- What recovered coins say: the secret key and the ciphertext have their lengths, and the coins are the rounded ones.
pub record Recovered (P : Params) (sk ct coins : List ℕ) : Type 0 where
  pub key_long : length sk ≡ secret_length P
  pub cipher_long : length ct ≡ ciphertext_length P
  pub are : rounded_coins P (secret_seed P sk) ct ≡ coins

-- Recovered coins say this.
pub recovered : (P : Params) (sk ct coins : List ℕ) → recovered_coins P sk ct ≡ answered coins → Recovered P sk ct coins
unfolding recovered_coins
recovered P sk ct coins e =
    let c1 = passed _ 2 e in
    let c2 = passed _ 2 c1.1 in
    record { key_long = same_length c1.0; cipher_long = same_length c2.0; are = answered_eq c2.1 }

-- And this gives recovered coins.
pub recovered_answers : (P : Params) (sk ct coins : List ℕ) → Recovered P sk ct coins → recovered_coins P sk ct ≡ answered coins
unfolding recovered_coins
recovered_answers P sk ct coins c =
    passes 2 _ (length-same c.key_long) ∙ passes 2 _ (length-same c.cipher_long) ∙ ap answered c.are

-- The message that is answered stands before the mark.
pub plain_marked : (coins : List ℕ) (e : Ending) (a : Plain) → plain coins e ≡ answered a
    → (coins ≡ a.coins) × (e ≡ marked a.message)
unfolding plain
plain_marked coins blank a e = never (cc)
plain_marked coins (marked message) a e =
    (ap (λ (p : Plain). p.coins) (answered_eq e), ap (λ (p : Plain). marked p.message) (answered_eq e))
plain_marked coins other a e = never (cc)

-- What success of decryption says.
pub record Decrypted (P : Params) (sk ct coins message : List ℕ) : Type 0 where
  pub found : recovered_coins P sk ct ≡ answered coins
  pub fitting : errors_fit P.p (remainders P (public_part P sk) coins ct) ≡ true
  pub ends : ending (unmasked P (public_part P sk) coins ct) ≡ marked message

-- An answer of decryption says this.
pub decrypted : (P : Params) (sk ct coins message : List ℕ)
    → decrypt P true sk ct ≡ answered (record { coins = coins; message = message }) → Decrypted P sk ct coins message
unfolding decrypt
decrypted P sk ct coins message e =
    let c1 = after_answer (recovered_coins P sk ct) _ e in
    let c2 = passed _ 4 c1.2 in
    let c3 = passed _ 5 c2.1 in
    let c4 = plain_marked c1.0 _ (record { coins = coins; message = message }) c3.1 in
    let all : Decrypted P sk ct c1.0 message = record { found = c1.1; fitting = not-false _ c3.0; ends = c4.1 } in
    subst (λ (l : List ℕ). Decrypted P sk ct l message) c4.0 all

-- And this gives an answer.
pub decrypt_answers : (P : Params) (sk ct coins message : List ℕ) → Decrypted P sk ct coins message
    → decrypt P true sk ct ≡ answered (record { coins = coins; message = message })
unfolding decrypt plain
decrypt_answers P sk ct coins message c =
    then_answered _ c.found ∙ passes 4 _ refl ∙ passes 5 _ (ap not c.fitting) ∙ ap (plain coins) c.ends

-- What success of decapsulation says.
pub record Decapsulated (P : Params) (sk ct coins key : List ℕ) : Type 0 where
  pub found : recovered_coins P sk ct ≡ answered coins
  pub fitting : errors_fit P.p (remainders P (public_part P sk) coins ct) ≡ true
  pub is_digest : unmasked P (public_part P sk) coins ct ≡ padded P (digest P coins)
  pub key_is : shared_key P coins ct ≡ key

-- An answer of decapsulation says this, of the recovered coins.
pub decapsulated : (P : Params) (sk ct key : List ℕ) → decaps P true sk ct ≡ answered key
    → (coins : List ℕ) × Decapsulated P sk ct coins key
unfolding decaps
decapsulated P sk ct key e =
    let c1 = after_answer (recovered_coins P sk ct) _ e in
    let c2 = passed _ 4 c1.2 in
    let c3 = passed _ 5 c2.1 in
    let c4 = passed _ 7 c3.1 in (
      c1.0,
      record {
        found = c1.1;
        fitting = not-false _ c3.0;
        is_digest = same-eq _ _ (not-false _ c4.0);
        key_is = answered_eq c4.1;
      },
    )

-- And this gives an answer.
pub decaps_answers : (P : Params) (sk ct coins key : List ℕ) → Decapsulated P sk ct coins key → decaps P true sk ct ≡ answered key
unfolding decaps
decaps_answers P sk ct coins key c =
    then_answered _ c.found ∙ passes 4 _ refl ∙ passes 5 _ (ap not c.fitting)
    ∙ passes 7 _ (ap not (eq-same c.is_digest)) ∙ ap answered c.key_is

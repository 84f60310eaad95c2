-- Decryption and decapsulation are strict: they answer exactly what encryption and encapsulation give again. Assumes nothing.
use mathlib.Core.Path.{◌≡◌, sym, subst, ap, ◌∙◌}
use mathlib.Core.Bool.{true}
use mathlib.Core.List.{List}
use Prim.Native.Nat.{ℕ, ◌<◌}
use native.Mathlib.Omega.{arith}
use lib.ListN.{length}
use lib.Seq.{length-take-le}
use Rattle.keccak.proofs.Entries.{length-tabulate}
use Rattle.bits.specs.Bits.{Below}
use Rattle.kindi.specs.declared.Params.{Params}
use Rattle.kindi.specs.Both.{Iff}
use Rattle.kindi.specs.Params.{WellFormed, public_length, secret_length, padded_length}
use Rattle.kindi.specs.Keys.{public_part, secret_seed}
use Rattle.kindi.specs.Decrypt.{rounded_coins, unmasked, ending}
use Rattle.kindi.specs.Kem.{digest}
use Rattle.kindi.specs.Answers.{answered, encrypt, encaps, decrypt, decaps, recovered_coins}
use Rattle.kindi.proofs.Strings.{length-pack}
use Rattle.kindi.proofs.Chains.{encrypted, encrypt_answers, length-digest, digest_below, encapsulated, encaps_answers}
use Rattle.kindi.proofs.Chains.{recovered, decrypted, decrypt_answers, Decapsulated, decapsulated, decaps_answers}
use Rattle.kindi.proofs.Padding.{ending-padded, marked_padded}
use Rattle.kindi.proofs.Remainders.{length-unmasked, Remains, remains_encrypted, encrypted_remains}

-- The rounded coins have the length of coins.
pub length_rounded : (P : Params) → WellFormed P → (γ ct : List ℕ) → length (rounded_coins P γ ct) ≡ P.coins
unfolding rounded_coins
length_rounded P w γ ct = length-pack 1 _ ∙ simp length-tabulate (omega (arith, w.coin_bits))

-- The stored public key has the length of a public key.
pub length-public_part : (P : Params) (sk : List ℕ) → length sk ≡ secret_length P → length (public_part P sk) ≡ public_length P
unfolding public_part
length-public_part P sk long = length-take-le (public_length P) sk (omega arith)

-- With the recovered coins, encryption of a message that fits answers the ciphertext where what remains of it is that message.
remains_answers : (P : Params) → WellFormed P → (sk ct coins message : List ℕ) → Below 256 ct → length message < padded_length P
    → recovered_coins P sk ct ≡ answered coins → Remains P (public_part P sk) coins message ct
    → encrypt P true (public_part P sk) coins message ≡ answered ct
remains_answers P w sk ct coins message bytes fits found r =
    let rounded = recovered P sk ct coins found in
    encrypt_answers P (public_part P sk) coins message ct
    (record {
      key_long = length-public_part P sk rounded.key_long;
      coins_long = sym (ap length rounded.are) ∙ length_rounded P w (secret_seed P sk) ct;
      fits = fits;
      is = remains_encrypted P w (public_part P sk) coins message ct bytes rounded.cipher_long r;
    })

-- And where it answers the ciphertext, what remains of that is the message.
answer_remains : (P : Params) → WellFormed P → (pk coins message ct : List ℕ) → Below 256 message
    → encrypt P true pk coins message ≡ answered ct → Remains P pk coins message ct
answer_remains P w pk coins message ct bytes e =
    let c = encrypted P pk coins message ct e in
    subst (λ (l : List ℕ). Remains P pk coins message l) c.is (encrypted_remains P w pk coins message bytes c.fits)

-- Decryption answers coins and a message exactly when the coins are the recovered ones and encrypting the message with them
-- under the stored public key answers the ciphertext. A key or a ciphertext of another length has no recovered coins.
pub decrypt_iff : (P : Params) → WellFormed P → (sk ct coins message : List ℕ) → Below 256 ct → Below 256 message
    → Iff (decrypt P true sk ct ≡ answered (record { coins = coins; message = message }))
    ((recovered_coins P sk ct ≡ answered coins) × (encrypt P true (public_part P sk) coins message ≡ answered ct))
decrypt_iff P w sk ct coins message bytes plain = record {
  forth = λ e.
      let d = decrypted P sk ct coins message e in
      let end = marked_padded P (unmasked P pk coins ct) message (length-unmasked P pk coins ct) d.ends in
      let r : Remains P pk coins message ct = record { fitting = d.fitting; is_padded = end.1 } in
      (d.found, remains_answers P w sk ct coins message bytes end.0 d.found r);
  back = λ again.
      let r = answer_remains P w pk coins message ct plain again.1 in
      decrypt_answers P sk ct coins message
      (record { found = again.0; fitting = r.fitting; ends = ap ending r.is_padded ∙ ending-padded P message });
}
  where
    pk : List ℕ
    pk = public_part P sk

-- The recovered coins, and that encapsulating with them under the stored public key answers this key and this ciphertext.
pub record Encapsulated (P : Params) (sk ct key : List ℕ) : Type 0 where
  pub coins : List ℕ
  pub recovered : recovered_coins P sk ct ≡ answered coins
  pub again : encaps P true (public_part P sk) coins ≡ answered (record { key = key; ciphertext = ct })

-- Decapsulation answers a key exactly when encapsulating with the recovered coins answers that key and the ciphertext. A key or
-- a ciphertext of another length has no recovered coins.
pub decaps_iff : (P : Params) → WellFormed P → (sk ct key : List ℕ) → Below 256 ct
    → Iff (decaps P true sk ct ≡ answered key) (Encapsulated P sk ct key)
decaps_iff P w sk ct key bytes = record { forth = λ e. let d = decapsulated P sk ct key e in from d.0 d.1; back = to }
  where
    pk : List ℕ
    pk = public_part P sk

    from : (coins : List ℕ) → Decapsulated P sk ct coins key → Encapsulated P sk ct key
    from coins d =
        let fits : length (digest P coins) < padded_length P = rw (length-digest P coins) w.digest_fits in
        let r : Remains P pk coins (digest P coins) ct = record { fitting = d.fitting; is_padded = d.is_digest } in
        record {
          coins = coins;
          recovered = d.found;
          again = encaps_answers P pk coins key ct (remains_answers P w sk ct coins (digest P coins) bytes fits d.found r) d.key_is;
        }

    to : Encapsulated P sk ct key → decaps P true sk ct ≡ answered key
    to c =
        let e = encapsulated P pk c.coins (record { key = key; ciphertext = ct }) w.digest_fits c.again in
        let r = answer_remains P w pk c.coins (digest P c.coins) ct (digest_below P c.coins) e.0 in
        decaps_answers P sk ct c.coins key
        (record { found = c.recovered; fitting = r.fitting; is_digest = r.is_padded; key_is = e.1 })

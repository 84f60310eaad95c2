-- Clear pairs come back: under made keys, and under any secret key of which the noise call says that they are clear. Rests on the
-- value that decryption rounds (Value, Rounding) and on decryption being strict (Strict). Assumes nothing.
use mathlib.Core.Path.{◌≡◌, refl, sym, ap, ◌∙◌}
use mathlib.Core.Bool.{true}
use mathlib.Core.List.{List}
use Prim.Native.Nat.{ℕ}
use borrow.Author.Tests.{leb-false, not-false}
use lib.ListN.{length}
use Rattle.bits.specs.Bits.{Below}
use Rattle.kindi.specs.declared.Params.{Params}
use Rattle.kindi.specs.Params.{WellFormed, secret_length}
use Rattle.kindi.specs.Keys.{public_key, secret_key, public_part, secret_seed, matrix_seed}
use Rattle.kindi.specs.Encrypt.{ciphertext}
use Rattle.kindi.specs.Decrypt.{rounded_coins}
use Rattle.kindi.specs.Kem.{digest}
use Rattle.kindi.specs.Noise.{clear}
use Rattle.kindi.specs.Answers.{answered, Keys, Plain, Shared, Size, keygen, encrypt, encaps, decrypt, decaps, noise_of}
use Rattle.kindi.specs.Answers.{recovered_coins, agrees, clear_under}
use Rattle.kindi.proofs.Chains.{passed, same_length, same-eq, answered_eq, encrypted, encrypt_answers, encapsulated, recovered_answers}
use Rattle.kindi.proofs.Made.{length-ciphertext, ciphertext_below, length-secret_key, public_part_made, secret_seed_made}
use Rattle.kindi.proofs.Rounding.{clear_coins}
use Rattle.kindi.proofs.Strict.{length-public_part, decrypt_iff, decaps_iff}

-- A secret key that holds the seed γ and the public key made from μ and γ.
pub record Holds (P : Params) (μ γ sk : List ℕ) : Type 0 where
  pub long : length sk ≡ secret_length P
  pub public_is : public_part P sk ≡ public_key P μ γ
  pub secret_is : secret_seed P sk ≡ γ

module _ (P : Params) (W : WellFormed P) (μ γ sk coins message ct : List ℕ) (holds : Holds P μ γ sk)
    (sealed : encrypt P true (public_part P sk) coins message ≡ answered ct) where
  -- The ciphertext is that of the made public key.
  sealed_is : ct ≡ ciphertext P (public_key P μ γ) coins message
  sealed_is =
      sym (encrypted P (public_part P sk) coins message ct sealed).is
      ∙ ap (λ (pk : List ℕ). ciphertext P pk coins message) holds.public_is

  -- It is made of bytes.
  sealed_below : Below 256 ct
  sealed_below = rw sealed_is (ciphertext_below P (public_key P μ γ) coins message)

  -- The coins of a clear pair are recovered.
  pub clear_recovers : Below 256 coins → clear P μ γ coins message ≡ true → recovered_coins P sk ct ≡ answered coins
  clear_recovers bytes c =
      recovered_answers P sk ct coins
      (record {
        key_long = holds.long;
        cipher_long = ap length sealed_is ∙ length-ciphertext P (public_key P μ γ) coins message W;
        are = ap (λ (g : List ℕ). rounded_coins P g ct) holds.secret_is ∙ ap (rounded_coins P γ) sealed_is
            ∙ clear_coins P W μ γ coins message c bytes (encrypted P (public_part P sk) coins message ct sealed).coins_long;
      })

  -- And the pair comes back.
  pub clear_decrypts : Below 256 coins → Below 256 message → clear P μ γ coins message ≡ true
      → decrypt P true sk ct ≡ answered (record { coins = coins; message = message })
  clear_decrypts bc bm c = (decrypt_iff P W sk ct coins message sealed_below bm).back (clear_recovers bc c, sealed)

-- ---- made keys

-- What success of key making says: the secret key holds the public key that is answered.
keygen_made : (P : Params) → WellFormed P → (μ γ z : List ℕ) (keys : Keys) → keygen P true μ γ z ≡ answered keys
    → Holds P μ γ keys.secret_key × (public_part P keys.secret_key ≡ keys.public_key)
unfolding keygen
keygen_made P W μ γ z keys made =
    let c1 = passed _ 2 made in
    let c2 = passed _ 2 c1.1 in
    let c3 = passed _ 2 c2.1 in
    let c4 = passed _ 4 c3.1 in
    let is = answered_eq c4.1 in
    let m : length μ ≡ P.seed = same_length c1.0 in
    let g : length γ ≡ P.seed = same_length c2.0 in
    let key : keys.secret_key ≡ secret_key P μ γ z = sym (ap (λ (k : Keys). k.secret_key) is) in
    let part : public_part P keys.secret_key ≡ public_key P μ γ = ap (public_part P) key ∙ public_part_made P W μ γ z m in (
      record {
        long = ap length key ∙ length-secret_key P W μ γ z m g (same_length c3.0);
        public_is = part;
        secret_is = ap (secret_seed P) key ∙ secret_seed_made P W μ γ z m g;
      },
      part ∙ ap (λ (k : Keys). k.public_key) is,
    )

-- A clear pair comes back exactly, under keys made from any seeds.
pub clear_returns : (P : Params) → WellFormed P → (μ γ z coins message ct : List ℕ) (keys : Keys)
    → Below 256 coins → Below 256 message
    → keygen P true μ γ z ≡ answered keys → encrypt P true keys.public_key coins message ≡ answered ct
    → clear P μ γ coins message ≡ true
    → decrypt P true keys.secret_key ct ≡ answered (record { coins = coins; message = message })
clear_returns P w μ γ z coins message ct keys bc bm made e c =
    let k = keygen_made P w μ γ z keys made in
    clear_decrypts P w μ γ keys.secret_key coins message ct k.0 (rw k.1 e) bc bm c

-- The like for shared keys.
pub clear-key_returns : (P : Params) → WellFormed P → (μ γ z coins : List ℕ) (keys : Keys) (shared : Shared)
    → Below 256 coins
    → keygen P true μ γ z ≡ answered keys → encaps P true keys.public_key coins ≡ answered shared
    → clear P μ γ coins (digest P coins) ≡ true
    → decaps P true keys.secret_key shared.ciphertext ≡ answered shared.key
clear-key_returns P w μ γ z coins keys shared bc made e c =
    let k = keygen_made P w μ γ z keys made in
    let sk = keys.secret_key in
    let ct = shared.ciphertext in
    let d = digest P coins in
    let sealed : encrypt P true (public_part P sk) coins d ≡ answered ct =
    rw k.1 (encapsulated P keys.public_key coins shared w.digest_fits e).0 in
    (decaps_iff P w sk ct shared.key (sealed_below P w μ γ sk coins d ct k.0 sealed)).back
    (record { coins = coins; recovered = clear_recovers P w μ γ sk coins d ct k.0 sealed bc c; again = rw k.1 e })

-- No two clear pairs share a ciphertext under one key.
pub clear_injective : (P : Params) → WellFormed P → (μ γ z coins message coins' message' ct : List ℕ) (keys : Keys)
    → Below 256 coins → Below 256 message → Below 256 coins' → Below 256 message'
    → keygen P true μ γ z ≡ answered keys
    → encrypt P true keys.public_key coins message ≡ answered ct → encrypt P true keys.public_key coins' message' ≡ answered ct
    → clear P μ γ coins message ≡ true → clear P μ γ coins' message' ≡ true
    → (coins ≡ coins') × (message ≡ message')
clear_injective P w μ γ z coins message coins' message' ct keys bc bm bc' bm' made e e' c c' =
    let first = clear_returns P w μ γ z coins message ct keys bc bm made e c in
    let second = clear_returns P w μ γ z coins' message' ct keys bc' bm' made e' c' in
    let same = answered_eq (sym first ∙ second) in
    (ap (λ (p : Plain). p.coins) same, ap (λ (p : Plain). p.message) same)

-- ---- any secret key

-- Where the noise call answers, encryption under the stored public key does.
pub noise_encrypts : (P : Params) (sk coins message : List ℕ) (size : Size) → noise_of P true sk coins message ≡ answered size
    → encrypt P true (public_part P sk) coins message ≡ answered (ciphertext P (public_part P sk) coins message)
unfolding noise_of
noise_encrypts P sk coins message size n =
    let c1 = passed _ 2 n in
    let c2 = passed _ 2 c1.1 in
    let c3 = passed _ 3 c2.1 in
    encrypt_answers P (public_part P sk) coins message (ciphertext P (public_part P sk) coins message)
    (record {
      key_long = length-public_part P sk (same_length c1.0);
      coins_long = same_length c2.0;
      fits = leb-false _ _ c3.0;
      is = refl;
    })

-- Where the noise call answers clear, for any secret key, decryption of the encryption under its stored public key returns the pair.
pub noise-clear : (P : Params) → WellFormed P → (sk coins message : List ℕ) → Below 256 coins → Below 256 message
    → (size : Size) → noise_of P true sk coins message ≡ answered size → size.is_clear ≡ true
    → (ct : List ℕ) → encrypt P true (public_part P sk) coins message ≡ answered ct
    → decrypt P true sk ct ≡ answered (record { coins = coins; message = message })
unfolding noise_of agrees clear_under
noise-clear P w sk coins message bc bm size n c ct e =
    let c1 = passed _ 2 n in
    let c2 = passed _ 2 c1.1 in
    let c3 = passed _ 3 c2.1 in
    let c4 = passed _ 4 c3.1 in
    let c5 = passed _ 8 c4.1 in
    let μ : List ℕ = matrix_seed P (public_part P sk) in
    let γ : List ℕ = secret_seed P sk in
    let holds : Holds P μ γ sk =
    record { long = same_length c1.0; public_is = same-eq _ _ (not-false _ c5.0); secret_is = refl } in
    clear_decrypts P w μ γ sk coins message ct holds e bc bm (ap (λ (s : Size). s.is_clear) (answered_eq c5.1) ∙ c)

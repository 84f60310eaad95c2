-- Demand 3, of what the calls of `src/lib.rt` leave. Each record of `specs/Leaves.antt` says that a call was made, with outputs of the
-- stated lengths and a work area that is long enough, and what it left. P is the parameter record of the set; the set may be any
-- number. Of a ciphertext, coins or a message nothing is asked but that it is bytes, `Below 256`, which every slice is; of a key
-- nothing, and of no length anything. Assumes nothing.
use mathlib.Core.Path.{◌≡◌, refl}
use mathlib.Core.Bool.{true}
use mathlib.Core.List.{List}
use Prim.Native.Nat.{ℕ}
use Rattle.bits.specs.Bits.{Below}
use Rattle.kindi.specs.declared.Params.{Params}
use Rattle.kindi.specs.Both.{Iff}
use Rattle.kindi.specs.Params.{of_set}
use Rattle.kindi.specs.Keys.{public_part}
use Rattle.kindi.specs.Kem.{digest}
use Rattle.kindi.specs.Noise.{clear}
use Rattle.kindi.specs.Answers.{answered, recovered_coins}
use Rattle.kindi.proofs.Sets.{of_set_well}
use Rattle.kindi.proofs.Strict.{decrypt_iff, decaps_iff}
use Rattle.kindi.proofs.Correct.{clear_returns, clear-key_returns, clear_injective, noise_encrypts, noise-clear}
use Rattle.scheme.specs.Leaves.{KeygenLeaves, EncryptLeaves, EncapsLeaves, DecryptLeaves, DecapsLeaves, NoiseLeaves, IsPair}
use Rattle.scheme.proofs.Left as Left

module _ (set : ℕ) where
  abbrev P : Params
  P = of_set set

  -- Decryption gives (coins, message) exactly when the coins are the ones found by rounding and encrypting the message with them
  -- under the stored public key gives the same ciphertext.
  pub decrypt_call_iff : {sk ct coins message : List ℕ} {status : ℕ} {coins' message' : List ℕ} {len' : ℕ}
      → Below 256 ct → Below 256 message → DecryptLeaves set sk ct status coins' message' len'
      → Iff (IsPair set coins message status coins' message' len')
      ((recovered_coins P sk ct ≡ answered coins) × EncryptLeaves set (public_part P sk) coins message 0 ct)
  decrypt_call_iff {sk} {ct} {coins} {message} cipher-bytes message-bytes call =
      let iff = decrypt_iff P (of_set_well set) sk ct coins message cipher-bytes message-bytes in
      record {
        forth = λ pair.
            let opened = Left.decrypt_pair set call pair in
            let found = iff.forth opened.1 in
            (found.0, Left.encrypt-some set opened.0 found.1);
        back = λ again.
            let made = Left.encrypt-zero set again.1 refl in
            Left.decrypt_leaves set made.0 (iff.back (again.0, made.1)) call;
      }

  -- The like for shared keys: decapsulation gives a key exactly when encapsulating with the coins found by rounding under the stored
  -- public key gives that key and the same ciphertext.
  pub decaps_call_iff : {sk ct key : List ℕ} {status : ℕ} {key' : List ℕ} → Below 256 ct → DecapsLeaves set sk ct status key'
      → Iff ((status ≡ 0) × (key' ≡ key))
      ((coins : List ℕ) × (recovered_coins P sk ct ≡ answered coins) × EncapsLeaves set (public_part P sk) coins 0 key ct)
  decaps_call_iff {sk} {ct} {key} cipher-bytes call =
      let iff = decaps_iff P (of_set_well set) sk ct key cipher-bytes in
      record {
        forth = λ given.
            let opened = Left.decaps-zero set call given.0 in
            let found = iff.forth (rw given.1 at opened.1) in
            (found.coins, found.recovered, Left.encaps-some set opened.0 found.again);
        back = λ again.
            let made = Left.encaps-zero set again.2 refl in
            Left.decaps_leaves set made.0 (iff.back (record { coins = again.0; recovered = again.1; again = made.1 })) call;
      }

  -- In both, one call is as good as another: where a call of encryption or encapsulation returned 0, every call of the same inputs
  -- returns 0 and leaves the same.
  pub encrypt_call_one : {pk coins message ct : List ℕ} {status : ℕ} {ct' : List ℕ} → EncryptLeaves set pk coins message 0 ct
      → EncryptLeaves set pk coins message status ct' → (status ≡ 0) × (ct' ≡ ct)
  encrypt_call_one call another =
      let made = Left.encrypt-zero set call refl in
      Left.encrypt_leaves set made.0 made.1 another

  pub encaps_call_one : {pk coins key ct : List ℕ} {status : ℕ} {key' ct' : List ℕ} → EncapsLeaves set pk coins 0 key ct
      → EncapsLeaves set pk coins status key' ct' → (status ≡ 0) × (key' ≡ key) × (ct' ≡ ct)
  encaps_call_one call another =
      let made = Left.encaps-zero set call refl in
      Left.encaps_leaves set made.0 made.1 another

  -- Whatever the seeds, a clear pair comes back exactly.
  pub clear_call_returns : {μ γ z pk sk coins message ct : List ℕ} {status : ℕ} {coins' message' : List ℕ} {len' : ℕ}
      → Below 256 coins → Below 256 message
      → KeygenLeaves set μ γ z 0 pk sk → clear P μ γ coins message ≡ true → EncryptLeaves set pk coins message 0 ct
      → DecryptLeaves set sk ct status coins' message' len' → IsPair set coins message status coins' message' len'
  clear_call_returns {μ} {γ} {z} {pk} {sk} {coins} {message} {ct} coins-bytes message-bytes keys is-clear sealed call =
      let made = Left.keygen-zero set keys refl in
      Left.decrypt_leaves set made.0
      (clear_returns P (of_set_well set) μ γ z coins message ct (record { public_key = pk; secret_key = sk }) coins-bytes message-bytes
      made.1 (Left.encrypt-zero set sealed refl).1 is-clear) call

  -- So no two clear pairs share a ciphertext.
  pub clear_call_injective : {μ γ z pk sk coins message coins₂ message₂ ct : List ℕ}
      → Below 256 coins → Below 256 message → Below 256 coins₂ → Below 256 message₂ → KeygenLeaves set μ γ z 0 pk sk
      → clear P μ γ coins message ≡ true → clear P μ γ coins₂ message₂ ≡ true
      → EncryptLeaves set pk coins message 0 ct → EncryptLeaves set pk coins₂ message₂ 0 ct
      → (coins ≡ coins₂) × (message ≡ message₂)
  clear_call_injective {μ} {γ} {z} {pk} {sk} {coins} {message} {coins₂} {message₂} {ct} bc bm bc₂ bm₂ keys is-clear is-clear₂ sealed sealed₂ =
      clear_injective P (of_set_well set) μ γ z coins message coins₂ message₂ ct (record { public_key = pk; secret_key = sk })
      bc bm bc₂ bm₂ (Left.keygen-zero set keys refl).1 (Left.encrypt-zero set sealed refl).1 (Left.encrypt-zero set sealed₂ refl).1
      is-clear is-clear₂

  -- Whatever the seeds, a shared key whose coins are clear with their digest comes back exactly.
  pub clear_call_key_returns : {μ γ z pk sk coins key ct : List ℕ} {status : ℕ} {key' : List ℕ} → Below 256 coins
      → KeygenLeaves set μ γ z 0 pk sk → clear P μ γ coins (digest P coins) ≡ true → EncapsLeaves set pk coins 0 key ct
      → DecapsLeaves set sk ct status key' → (status ≡ 0) × (key' ≡ key)
  clear_call_key_returns {μ} {γ} {z} {pk} {sk} {coins} {key} {ct} coins-bytes keys is-clear sealed call =
      let made = Left.keygen-zero set keys refl in
      Left.decaps_leaves set made.0
      (clear-key_returns P (of_set_well set) μ γ z coins (record { public_key = pk; secret_key = sk }) (record { key = key; ciphertext = ct })
      coins-bytes made.1 (Left.encaps-zero set sealed refl).1 is-clear) call

  -- Where the noise call returned clear, under any secret key, encryption under its stored public key returns 0, and the pair comes
  -- back exactly.
  pub noise_call_clear : {sk coins message ct : List ℕ} {largest sealed opened : ℕ} {coins' message' : List ℕ} {len' : ℕ}
      → Below 256 coins → Below 256 message → NoiseLeaves set sk coins message 0 1 largest
      → EncryptLeaves set (public_part P sk) coins message sealed ct → DecryptLeaves set sk ct opened coins' message' len'
      → (sealed ≡ 0) × IsPair set coins message opened coins' message' len'
  noise_call_clear {sk} {coins} {message} {ct} coins-bytes message-bytes told encrypted call =
      let noise = Left.noise-clear_left set told refl refl in
      let size = noise.1.0 in
      let answers = noise_encrypts P sk coins message size noise.1.1 in
      let made = Left.encrypt_leaves set noise.0 answers encrypted in (
        made.0,
        Left.decrypt_leaves set noise.0
            (noise-clear P (of_set_well set) sk coins message coins-bytes message-bytes size noise.1.1 noise.1.2 ct
            (rw made.1 answers)) call,
      )

-- 01's table of lengths, that of work areas, and the limit of these, as statements on parameters; proved in proofs/Lengths.antt. Rests on Params.
use Rattle.std.specs.Prelude.{◌≡◌, ℕ, ◌≤◌}
use Rattle.kindi.specs.declared.Params.{Params}
use Rattle.kindi.specs.Params.{of_set, public_length, secret_length, ciphertext_length, padded_length, keygen_work, encrypt_work, decrypt_work, noise_work}

-- A row of the table: the lengths in bytes that parameters give.
pub record Lengths (P : Params) (seed coins public secret ciphertext container : ℕ) : Type 0 where
  pub seed_is : P.seed ≡ seed
  pub coins_is : P.coins ≡ coins
  pub public_is : public_length P ≡ public
  pub secret_is : secret_length P ≡ secret
  pub ciphertext_is : ciphertext_length P ≡ ciphertext
  pub container_is : padded_length P ≡ container

-- The table, a row for each set by its number.
pub record LengthsOfSets : Type 0 where
  -- seed, coins, public key, secret key, ciphertext, container
  pub row1 : Lengths (of_set 1) 32 32 1184 1248 1792 384
  pub row2 : Lengths (of_set 2) 64 64 1472 1600 2496 384
  pub row3 : Lengths (of_set 3) 64 64 1728 1856 2688 576
  pub row4 : Lengths (of_set 4) 64 64 2368 2496 3328 512

-- A row of the table of work areas: of keygen; of encrypt, encrypt_each and encaps; of decrypt and decaps; of noise and choose.
pub record Areas (P : Params) (keygen encrypt decrypt noise : ℕ) : Type 0 where
  pub keygen_area : keygen_work P ≡ keygen
  pub encrypt_area : encrypt_work P ≡ encrypt
  pub decrypt_area : decrypt_work P ≡ decrypt
  pub noise_area : noise_work P ≡ noise

-- The table, a row for each set by its number.
pub record AreasOfSets : Type 0 where
  pub row1 : Areas (of_set 1) 576 832 1024 1408
  pub row2 : Areas (of_set 2) 832 832 1472 1344
  pub row3 : Areas (of_set 3) 896 1024 1600 1792
  pub row4 : Areas (of_set 4) 832 1024 1536 1792

-- The limit: no call asks for a work area of more than 65,536 bytes.
pub record WorkAreas (P : Params) : Type 0 where
  pub keygen : keygen_work P ≤ 65536
  -- encrypt, encrypt_each and encaps
  pub encrypt : encrypt_work P ≤ 65536
  -- decrypt and decaps
  pub decrypt : decrypt_work P ≤ 65536
  -- noise and choose
  pub noise : noise_work P ≤ 65536

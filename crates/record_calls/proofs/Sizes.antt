-- What is lent to the calls over bodies has room for every set: bounds of the lengths, over all parameters that are well formed.
-- Assumes nothing.
use Prim.Native.Nat.{◌≤◌}
use native.Mathlib.Omega.{arith}
use Rattle.kindi.specs.declared.Params.{Params}
use Rattle.kindi.specs.Params.{WellFormed, stored_length, public_length, secret_length}
use Rattle.kindi.specs.Params.{ciphertext_length, padded_length, keygen_work, encrypt_work, decrypt_work}
use Rattle.kindi.proofs.Lengths.{length_mono, work_areas}
use Rattle.record_calls.specs.Outputs.{first_most, second_most}

-- The lengths of a set's strings, all of which fit.
pub record Sized (P : Params) : Type 0 where
  pub coins_fit : P.coins ≤ 1024
  pub public_fits : public_length P ≤ first_most
  pub secret_fits : secret_length P ≤ second_most
  pub cipher_fits : ciphertext_length P ≤ 3584
  pub padded_fits : padded_length P ≤ 1024
  pub keygen_fits : keygen_work P ≤ 65536
  pub encrypt_fits : encrypt_work P ≤ 65536
  pub decrypt_fits : decrypt_work P ≤ 65536

-- So they are: the public polynomials are no longer than a ciphertext, and the work areas are within their limit.
pub sized : (P : Params) → WellFormed P → Sized P
sized P W =
    let stored : stored_length P ≤ ciphertext_length P = length_mono P (omega arith) (omega arith) in
    let work = work_areas P W in
    record {
      coins_fit = omega (arith, W.digest_fits, W.padded_fits);
      public_fits = omega (arith, W.cipher_fits, W.seed_fits, stored);
      secret_fits = omega (arith, W.cipher_fits, W.seed_fits, stored);
      cipher_fits = W.cipher_fits;
      padded_fits = W.padded_fits;
      keygen_fits = work.keygen;
      encrypt_fits = work.encrypt;
      decrypt_fits = work.decrypt;
    }

-- One of them by itself: where it is listed, `omega` applies it to the parameters that are well formed.
pub secret_short : {P : Params} → WellFormed P → secret_length P ≤ second_most
secret_short {P} W = (sized P W).secret_fits

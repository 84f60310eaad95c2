-- Laws of the work area and of the sums on the way to a ciphertext. Assumes nothing.
use mathlib.Core.Path.{◌≡◌, ap, ap₂, ◌∙◌}
use mathlib.Core.List.{List, ◌++◌, append_assoc}
use Prim.Native.Nat.{ℕ, ◌+◌, ◌-◌, ◌*◌, ◌≤◌}
use native.Mathlib.Nat.{add-sub_cancel_left}
use native.Mathlib.Omega.{arith}
use lib.ListN.{length, take, drop, length-take}
use lib.Seq.{take_at, drop_at}
use Rattle.keccak.specs.Lists.{patched}
use Rattle.bits.specs.Bits.{pack, unpack, low_bits}
use Rattle.ring.specs.Coefficients.{centred_words}
use Rattle.ring.specs.Poly.{Poly, plus}
use Rattle.ring.proofs.Modular.{cong_add, cong_refl}
use Rattle.kindi.specs.declared.Params.{Params}
use Rattle.kindi.specs.Params.{width, low_length, padded_length, coins_stream_length}
use Rattle.kindi.specs.Streams.{coins_stream}
use Rattle.kindi.specs.Encrypt.{masked, error, noiseless, ciphertext}
use Rattle.kindi.proofs.Padding.{length-masked}
use Rattle.vectors.specs.Vectors.{vector}
use Rattle.vectors.proofs.Amounts.{width_bound, reads}
use Rattle.vectors.proofs.Congruent.{vector_near, vector_low}
use Rattle.vectors.proofs.Reading.{small-vector, vector_cong}
use Rattle.cipher_terms.specs.Inputs.{StreamOf}
use Rattle.cipher_terms.proofs.Masks.{length_stream, there_long}
use Rattle.encryption.specs.Inputs.{ErrorsRoom, EncryptRoom}
use Rattle.encryption.specs.Errors.{ErrorsExit}
use Rattle.encryption.specs.Noiseless.{NoiselessExit}

-- A part of a string is there in a longer one.
part_of_first : (a k : ℕ) (ys xs zs : List ℕ) → a ≤ length xs → length ys ≡ k → take k (drop a (patched a k ys xs ++ zs)) ≡ ys
part_of_first a k ys xs zs inside long =
    let size : length (take a xs) ≡ a = simp length-take (omega arith) in
    let rest : List ℕ = drop k (drop a xs) in
    ap (λ (l : List ℕ). take k (drop a l)) (append_assoc (take a xs) (ys ++ rest) zs)
    ∙ ap (take k) (drop_at (take a xs) ((ys ++ rest) ++ zs) a size ∙ append_assoc ys rest zs) ∙ take_at ys (rest ++ zs) k long

-- The work area with the stream of the coins at its beginning, in which the message is masked.
module _ {P : Params} {message errors work : List ℕ} (room : ErrorsRoom P message errors work) (coins : List ℕ) {r : ℕ} {ys : List ℕ}
    (er : r ≡ coins_stream_length P) (is : ys ≡ patched (low_length P) (padded_length P) (masked P coins message) (coins_stream P coins)) where
  -- The masked message lies in it.
  masked_there : (a e : ℕ) → a ≡ low_length P → e ≡ low_length P + padded_length P → take (e - a) (drop a (ys ++ drop r work)) ≡ masked P coins message
  masked_there a e ea ee =
      ap₂ (λ (i j : ℕ). take i (drop j (ys ++ drop r work))) (ap₂ ◌-◌ ee ea ∙ add-sub_cancel_left (low_length P) (padded_length P)) ea
      ∙ ap (λ (l : List ℕ). take (padded_length P) (drop (low_length P) (l ++ drop r work))) is
      ∙ part_of_first (low_length P) (padded_length P) (masked P coins message) (coins_stream P coins) (drop r work)
      (omega (arith, length_stream P coins)) (length-masked P coins message)

  -- The errors are read within its bytes.
  pub errors_read : (a e : ℕ) {w : ℕ} → a ≡ low_length P → e ≡ low_length P + padded_length P → w ≡ width P
      → (w ≤ 16) × (w * length errors ≤ 8 * length (take (e - a) (drop a (ys ++ drop r work))))
  errors_read a e ea ee ew =
      let fits : padded_length P ≤ length (take (e - a) (drop a (ys ++ drop r work)))
      = omega (arith, ap length (masked_there a e ea ee) ∙ length-masked P coins message) in
      (rw ew (width_bound P room.well), rw ew (reads P room.well (P.l + 1) (width P) room.errors_long fits))

  -- What `read_errors` leaves.
  pub errors_exit : (a e : ℕ) {w : ℕ} {es : List ℕ} → a ≡ low_length P → e ≡ low_length P + padded_length P → w ≡ width P
      → es ≡ centred_words P.p (unpack w (length errors) (take (e - a) (drop a (ys ++ drop r work))))
      → ErrorsExit P coins message es (ys ++ drop r work)
  unfolding error
  errors_exit a e ea ee ew isE =
      let U : List ℕ = masked P coins message in
      let has : StreamOf P coins ys = record { inside = U; inside_long = length-masked P coins message; stream_is = is } in
      record {
        errors_are = isE
            ∙ ap₂ (λ (v : ℕ) (l : List ℕ). centred_words P.p (unpack v (length errors) l)) ew (masked_there a e ea ee)
            ∙ ap (λ (m : ℕ). centred_words P.p (unpack (width P) m U)) room.errors_long ∙ small-vector (P.l + 1) P.n (width P) P.p U;
        stream = rw (take_at ys (drop r work) (coins_stream_length P) (there_long has)) has;
      }

module _ {P : Params} {pk coins message ct work : List ℕ} (room : EncryptRoom P pk coins message ct work) where
  -- What encryption leaves: a ciphertext without its errors is added to the errors, and the sums are packed.
  pub encrypt_exit : {errors work1 work2 sums dst : List ℕ} → ErrorsExit P coins message errors work1
      → NoiselessExit P pk coins 0 work1 errors work2 sums → dst ≡ pack P.k (low_bits P.k sums) → dst ≡ ciphertext P pk coins message
  unfolding ciphertext
  encrypt_exit {errors} {work1} {work2} {sums} read added isD =
      let E : ℕ → Poly = error P coins message in
      let all : sums ≡ vector (P.l + 1) P.n (λ j. plus (noiseless P pk coins j) (E j))
      = added.sums_are ∙ vector_near (P.l + 1) P.n _ _ (λ j x h l.
      cong_add (cong_refl (noiseless P pk coins j x)) (rw read.errors_are (vector_cong (P.l + 1) P.n E j x h l))) in
      isD ∙ ap (λ (l : List ℕ). pack P.k (low_bits P.k l)) all
      ∙ ap (pack P.k) (vector_low P.k (P.l + 1) P.n (λ j. plus (noiseless P pk coins j) (E j)) room.well.word)

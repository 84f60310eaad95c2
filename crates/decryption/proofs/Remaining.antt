-- What remains of a ciphertext, read off ℓ + 1 sums. Assumes nothing.
use mathlib.Core.Path.{◌≡◌, refl, ap, ap₂, ◌∙◌}
use mathlib.Core.Bool.{Bool}
use mathlib.Core.List.{List}
use Prim.Native.Nat.{ℕ, ◌+◌, ◌*◌}
use lib.IntN.{ℤ, pos, ◌+ℤ◌, ◌-ℤ◌}
use lib.ListN.{length, take, drop}
use lib.Pow.{pow_pos}
use Rattle.keccak.specs.Strings.{xor_into}
use Rattle.bits.specs.Bits.{pack, low_bits}
use Rattle.ring.specs.Integers.{Cong}
use Rattle.ring.specs.Coefficients.{taken_from}
use Rattle.ring.specs.Poly.{Poly, minus, of_nats, parts, residues}
use Rattle.ring.proofs.Integers.{ring}
use Rattle.ring.proofs.Modular.{cong_refl, cong_of_eq, cong_trans, cong_sub, cong_power}
use Rattle.ring.proofs.Residues.{residues_cong}
use Rattle.kindi.specs.declared.Params.{Params}
use Rattle.kindi.specs.Params.{WellFormed, width, low_length, padded_length}
use Rattle.kindi.specs.Keys.{public_part}
use Rattle.kindi.specs.Encrypt.{noiseless}
use Rattle.kindi.specs.Decrypt.{cipher_part, remainder, remainders, errors_fit}
use Rattle.vectors.specs.Vectors.{vector}
use Rattle.vectors.proofs.Congruent.{vector_low}
use Rattle.vectors.proofs.Joining.{joined_same}
use Rattle.vectors.proofs.Reading.{flat, vector_cong}
use Rattle.decryption.specs.Opened.{remainders_from, opened, SumsExit, OpenExit}

-- ---- what remains

-- What `remainders` computes: the sums taken from p, modulo 2^16 and then modulo q.
pub remaining_low : (P : Params) → WellFormed P → (sums : List ℕ) → length sums ≡ (P.l + 1) * P.n
    → low_bits P.k (taken_from P.p sums) ≡ remainders_from P sums
unfolding remainders_from
remaining_low P W sums long =
    let less : ℕ → Poly = λ j x. pos P.p -ℤ parts P.n sums j x in
    ap (λ (N : ℕ). low_bits P.k (residues 65536 N (λ k. pos P.p -ℤ of_nats sums k))) long
    ∙ ap (low_bits P.k) (flat (P.l + 1) P.n less (λ k. pos P.p -ℤ of_nats sums k) (λ j x _ _. refl))
    ∙ vector_low P.k (P.l + 1) P.n less W.word

-- p less s − c is e + p.
error_back : (c s p : ℤ) → p -ℤ (s -ℤ c) ≡ (c -ℤ s) +ℤ p
error_back c s p = simp ring

-- From the ciphertext of the coins without its errors, less the ciphertext, they are the remainders.
remaining_is : (P : Params) → WellFormed P → (pk ct coins : List ℕ) {sums : List ℕ}
    → sums ≡ vector (P.l + 1) P.n (λ j. minus (noiseless P pk coins j) (cipher_part P ct j)) → remainders_from P sums ≡ remainders P pk coins ct
unfolding remainders_from remainders remainder
remaining_is P W pk ct coins {sums} e =
    let m : ℕ = P.l + 1 in
    let n : ℕ = P.n in
    joined_same m _ (remainder P pk coins ct) (λ j h. residues_cong (pow_pos P.k) n _ _ (λ x l.
    let c : ℤ = cipher_part P ct j x in
    let s : ℤ = noiseless P pk coins j x in
    let p : ℤ = pos P.p in
    let near : Cong 65536 (parts n sums j x) (s -ℤ c) = rw e (vector_cong m n (λ i. minus (noiseless P pk coins i) (cipher_part P ct i)) j x h l) in
    cong_trans (cong_power P.k 16 W.word (cong_sub (cong_refl p) near)) (cong_of_eq (error_back c s p))))

-- What `open` leaves, from the sums and from what is done with them.
pub open_exit : (P : Params) → WellFormed P → (sk ct coins work work' : List ℕ) {sums taken : List ℕ} {fits : Bool}
    → SumsExit P (public_part P sk) ct coins work sums → taken ≡ sums → fits ≡ errors_fit P.p (remainders_from P taken)
    → take (padded_length P) (drop (low_length P) work')
    ≡ xor_into (take (padded_length P) (drop (low_length P) work)) (pack (width P) (low_bits (width P) (remainders_from P taken)))
    → OpenExit P sk ct coins fits work'
unfolding opened
open_exit P W sk ct coins work work' {sums} {taken} {fits} made same fit padded =
    let left : remainders_from P taken ≡ remainders P (public_part P sk) coins ct
    = remaining_is P W (public_part P sk) ct coins (same ∙ made.sums_are) in
    record {
      fits_is = fit ∙ ap (errors_fit P.p) left;
      padded_is = padded ∙ ap₂ (λ (m us : List ℕ). xor_into m (pack (width P) (low_bits (width P) us))) made.mask_is left;
    }

-- What remains of a ciphertext, its coefficients less those of the same encryption without errors, plus p: it fits and unmasks to
-- the padded message of a message exactly where the ciphertext is the encryption of that message. Assumes nothing.
use mathlib.Core.Path.{◌≡◌, sym, ap, ◌∙◌}
use mathlib.Core.Bool.{true}
use mathlib.Core.List.{List}
use Prim.Native.Nat.{ℕ, ◌+◌, ◌*◌, ◌^◌, ◌<◌}
use native.Mathlib.Nat.{le_of_eq, lt_of_lt_of_le}
use native.Mathlib.Omega.{arith}
use lib.IntN.{ℤ, pos, ◌+ℤ◌, ◌-ℤ◌, +ℤ_comm, +ℤ-neg_ℤ_cancel, -ℤ-+ℤ_cancel}
use lib.ListN.{length, get_or}
use lib.Pow.{pow_pos, pow_mono}
use Rattle.keccak.specs.Strings.{xor_into}
use Rattle.keccak.proofs.Parts.{length-xor_into}
use Rattle.bits.specs.Bits.{Below, pack, unpack}
use Rattle.ring.specs.Integers.{Cong, residue, centred}
use Rattle.bits.proofs.Digits.{unpack_below, unpack-pack, pack-unpack}
use Rattle.ring.proofs.Modular.{cong_refl, cong_of_eq, cong_sym, cong_trans, cong_add, cong_sub, residue_cong, residue_unique}
use Rattle.ring.proofs.Residues.{residues_at, length-residues}
use Rattle.kindi.specs.declared.Params.{Params}
use Rattle.kindi.specs.Params.{WellFormed, modulus, width, ciphertext_length, padded_length}
use Rattle.kindi.specs.Streams.{coefficient, mask}
use Rattle.kindi.specs.Encrypt.{padded, masked, error, noiseless, ciphertext}
use Rattle.kindi.specs.Decrypt.{cipher_part, remainder, remainders, errors_fit, unmasked}
use Rattle.kindi.proofs.Strings.{length-joined, joined_at, joined-unpack, place_below, length-pack, whole_bytes}
use Rattle.kindi.proofs.Strings.{coefficient-unpack, coefficient_below}
use Rattle.kindi.proofs.Made.{unreduced, sent, length-sent, ciphertext_at_lem}
use Rattle.kindi.proofs.Padding.{all_below_below, below_all_below, mask_twice, length-mask, length-masked, masked_below, masked_twice}

-- ---- one coefficient

-- What remains of a coefficient that was made with u is u.
remains : {q u : ℕ} (p : ℕ) (s : ℤ) → u < q → residue q ((pos (residue q (s +ℤ centred p u)) -ℤ s) +ℤ pos p) ≡ u
remains {q} {u} p s h =
    let c : ℤ = s +ℤ centred p u in
    let made : Cong q (pos (residue q c)) c = residue_cong (omega arith) c in
    let back : (c -ℤ s) +ℤ pos p ≡ pos u =
    ap (λ (z : ℤ). (z -ℤ s) +ℤ pos p) (+ℤ_comm s (centred p u)) ∙ ap (λ (z : ℤ). z +ℤ pos p) (+ℤ-neg_ℤ_cancel (centred p u) s)
    ∙ -ℤ-+ℤ_cancel (pos u) (pos p)
    in
    sym (residue_unique h (cong_sym (cong_trans (cong_add (cong_sub made (cong_refl s)) (cong_refl (pos p))) (cong_of_eq back))))

-- A coefficient made with what remains of c is c.
made_again : {q c : ℕ} (p : ℕ) (s : ℤ) → c < q → residue q (s +ℤ centred p (residue q ((pos c -ℤ s) +ℤ pos p))) ≡ c
made_again {q} {c} p s h =
    let e : ℤ = (pos c -ℤ s) +ℤ pos p in
    let left : Cong q (pos (residue q e)) e = residue_cong (omega arith) e in
    let back : s +ℤ (e -ℤ pos p) ≡ pos c =
    ap (λ (z : ℤ). s +ℤ z) (+ℤ-neg_ℤ_cancel (pos c -ℤ s) (pos p)) ∙ +ℤ_comm s (pos c -ℤ s) ∙ -ℤ-+ℤ_cancel (pos c) s
    in
    sym (residue_unique h (cong_sym (cong_trans (cong_add (cong_refl s) (cong_sub left (cong_refl (pos p)))) (cong_of_eq back))))

-- ---- the polynomials of a ciphertext, and what remains of them

-- Coefficient x of polynomial u_j of a masked message.
abbrev small : Params → List ℕ → List ℕ → ℕ → ℕ → ℕ
small P coins message j x = coefficient (width P) P.n (masked P coins message) j x

-- All of them, one after another.
abbrev smalls : Params → List ℕ → List ℕ → List ℕ
smalls P coins message = unpack (width P) ((P.l + 1) * P.n) (masked P coins message)

module _ (P : Params) (pk coins : List ℕ) where
  module _ (ct : List ℕ) where
    -- A remainder has n coefficients.
    length-remainder : (j : ℕ) → length (remainder P pk coins ct j) ≡ P.n
    unfolding remainder
    length-remainder j = length-residues (modulus P) P.n (λ x. (cipher_part P ct j x -ℤ noiseless P pk coins j x) +ℤ pos P.p)

    -- Coefficient x of it.
    remainder_at : (j x : ℕ) → x < P.n
        → get_or (remainder P pk coins ct j) x 0
        ≡ residue (modulus P) ((pos (coefficient P.k P.n ct j x) -ℤ noiseless P pk coins j x) +ℤ pos P.p)
    unfolding remainder cipher_part
    remainder_at j x l =
        residues_at (modulus P) P.n (λ x. (cipher_part P ct j x -ℤ noiseless P pk coins j x) +ℤ pos P.p) l

    -- All remainders have as many coefficients as the ciphertext.
    length-remainders : length (remainders P pk coins ct) ≡ (P.l + 1) * P.n
    unfolding remainders
    length-remainders = length-joined (P.l + 1) P.n (remainder P pk coins ct) (λ j _. length-remainder j)

    -- What they unmask to has the length of a padded message.
    pub length-unmasked : length (unmasked P pk coins ct) ≡ padded_length P
    unfolding unmasked
    length-unmasked = length-xor_into (mask P coins) (pack (width P) (remainders P pk coins ct)) ∙ length-mask P coins

  module _ (w : WellFormed P) (message : List ℕ) where
    -- The remainders of an encryption are the polynomials u of its masked message.
    remainders_made : remainders P pk coins (ciphertext P pk coins message) ≡ smalls P coins message
    unfolding remainders error
    remainders_made =
        joined-unpack (width P) P.n (P.l + 1) (remainder P pk coins ct) (masked P coins message) (λ j _. length-remainder ct j)
        (λ j x h l.
        remainder_at ct j x l
        ∙ ap (λ (c : ℕ). residue (modulus P) ((pos c -ℤ noiseless P pk coins j x) +ℤ pos P.p))
        (ciphertext_at_lem P pk coins message j x h l)
        ∙ remains P.p (noiseless P pk coins j x) (fits j x))
      where
        ct : List ℕ
        ct = ciphertext P pk coins message

        fits : (j x : ℕ) → small P coins message j x < modulus P
        fits j x = lt_of_lt_of_le (coefficient_below (width P) P.n (masked P coins message) j x) (pow_mono w.small)

    -- A ciphertext whose remainders are these is the encryption of the message.
    ciphertext_again : (ct : List ℕ) → Below 256 ct → length ct ≡ ciphertext_length P → remainders P pk coins ct ≡ smalls P coins message
        → ciphertext P pk coins message ≡ ct
    unfolding remainders ciphertext error
    ciphertext_again ct bytes long e =
        ap (pack P.k)
        (joined-unpack P.k P.n (P.l + 1) (sent P pk coins message) ct (λ j _. length-sent P pk coins message j)
        (λ j x h l.
        residues_at (modulus P) P.n (unreduced P pk coins message j) l
        ∙ ap (λ (u : ℕ). residue (modulus P) (noiseless P pk coins j x +ℤ centred P.p u)) (left j x h l)
        ∙ made_again P.p (noiseless P pk coins j x) (coefficient_below P.k P.n ct j x)))
        ∙ pack-unpack P.k ((P.l + 1) * P.n) ct bytes (whole_bytes P w (P.l + 1) P.k ∙ ap (λ (m : ℕ). 8 * m) (sym long))
      where
        left : (j x : ℕ) → j < P.l + 1 → x < P.n → small P coins message j x
            ≡ residue (modulus P) ((pos (coefficient P.k P.n ct j x) -ℤ noiseless P pk coins j x) +ℤ pos P.p)
        left j x h l =
            coefficient-unpack (width P) P.n ((P.l + 1) * P.n) (masked P coins message) j x (place_below h l)
            ∙ ap (λ (us : List ℕ). get_or us (j * P.n + x) 0) (sym e)
            ∙ joined_at (P.l + 1) P.n (remainder P pk coins ct) j x (λ i _. length-remainder ct i) h l
            ∙ remainder_at ct j x l

    -- Remainders below 2p that unmask to the padded message are these.
    remainders-masked : (ct : List ℕ) → Below (2 * P.p) (remainders P pk coins ct) → unmasked P pk coins ct ≡ padded P message
        → remainders P pk coins ct ≡ smalls P coins message
    unfolding unmasked masked
    remainders-masked ct below e =
        let us : List ℕ = remainders P pk coins ct in
        let count : length us ≡ (P.l + 1) * P.n = length-remainders ct in
        let bits : width P * length us ≡ 8 * padded_length P = rw count (whole_bytes P w (P.l + 1) (width P)) in
        let long : length (mask P coins) ≡ length (pack (width P) us) =
        length-mask P coins ∙ sym (length-pack (width P) us ∙ omega arith) in
        let packed : xor_into (mask P coins) (padded P message) ≡ pack (width P) us =
        ap (xor_into (mask P coins)) (sym e) ∙ mask_twice (mask P coins) (pack (width P) us) long in
        let fit : Below (2 ^ width P) us = λ i. rw w.narrow (below i) in
        sym (ap (unpack (width P) ((P.l + 1) * P.n)) packed
        ∙ ap (λ (m : ℕ). unpack (width P) m (pack (width P) us)) (sym count) ∙ unpack-pack (width P) us fit)

    -- These unmask to the padded message.
    unmasked_made : (ct : List ℕ) → Below 256 message → length message < padded_length P
        → remainders P pk coins ct ≡ smalls P coins message → unmasked P pk coins ct ≡ padded P message
    unfolding unmasked
    unmasked_made ct bytes fits e =
        let bits : width P * ((P.l + 1) * P.n) ≡ 8 * length (masked P coins message) =
        rw (length-masked P coins message) (whole_bytes P w (P.l + 1) (width P)) in
        ap (λ (us : List ℕ). xor_into (mask P coins) (pack (width P) us)) e
        ∙ ap (xor_into (mask P coins)) (pack-unpack (width P) _ (masked P coins message) (masked_below P coins message bytes) bits)
        ∙ masked_twice P coins message fits

-- ---- encryption again

-- What remains of a ciphertext fits, and unmasks to the padded message of a message.
pub record Remains (P : Params) (pk coins message ct : List ℕ) : Type 0 where
  pub fitting : errors_fit P.p (remainders P pk coins ct) ≡ true
  pub is_padded : unmasked P pk coins ct ≡ padded P message

-- Such a ciphertext is the encryption of that message.
pub remains_encrypted : (P : Params) → WellFormed P → (pk coins message ct : List ℕ) → Below 256 ct → length ct ≡ ciphertext_length P
    → Remains P pk coins message ct → ciphertext P pk coins message ≡ ct
remains_encrypted P w pk coins message ct bytes long r =
    let some : 0 < 2 * P.p = rw w.narrow at (pow_pos (width P)) in
    let below : Below (2 * P.p) (remainders P pk coins ct) = all_below_below (2 * P.p) (remainders P pk coins ct) some r.fitting in
    ciphertext_again P pk coins w message ct bytes long (remainders-masked P pk coins w message ct below r.is_padded)

-- And such is the encryption of a message that fits.
pub encrypted_remains : (P : Params) → WellFormed P → (pk coins message : List ℕ) → Below 256 message → length message < padded_length P
    → Remains P pk coins message (ciphertext P pk coins message)
encrypted_remains P w pk coins message bytes fits =
    let ct : List ℕ = ciphertext P pk coins message in
    let made : remainders P pk coins ct ≡ smalls P coins message = remainders_made P pk coins w message in
    let below : Below (2 * P.p) (remainders P pk coins ct) =
    λ i. rw made (lt_of_lt_of_le (unpack_below (width P) _ (masked P coins message) i) (le_of_eq w.narrow)) in
    record {
      fitting = below_all_below (2 * P.p) (remainders P pk coins ct) below;
      is_padded = unmasked_made P pk coins w message ct bytes fits made;
    }

-- For made keys, the value that decryption rounds is g·s₁ plus the noise, modulo q. Assumes nothing.
use mathlib.Core.Path.{◌≡◌, refl, sym, ap, ap₂, ◌∙◌}
use mathlib.Core.Logic.{◌≢◌}
use mathlib.Core.Bool.{Bool, cond}
use mathlib.Core.List.{List}
use Prim.Native.Nat.{ℕ, zero, suc, ◌*◌, ◌/◌, ◌%◌, ◌^◌, ◌<◌}
use native.Mathlib.Nat.{div-add-mod, le_refl}
use native.Mathlib.Omega.{arith}
use borrow.Author.Tests.{lt-ltb, le-ltb}
use lib.Dec.{eqb, eqb-suc-zero}
use lib.IntN.{ℤ, pos, ◌+ℤ◌, ◌-ℤ◌, ◌*ℤ◌, +ℤ-neg_ℤ_cancel, zero-*ℤ}
use Rattle.ring.specs.Integers.{Cong, residue}
use Rattle.ring.specs.Poly.{Poly, mul, unit, plus, dot, apply, transposed}
use Rattle.ring.proofs.Integers.{ring}
use Rattle.ring.proofs.Modular.{cong_of_eq, cong_refl, cong_trans, cong_add, cong_sub, residue_cong}
use Rattle.ring.proofs.Sums.{sum_one}
use Rattle.ring.proofs.Ring.{mul_ext, mul_scale, mul-unit_l, dot_cong, dot-plus_l, transpose_moves}
use Rattle.kindi.specs.declared.Params.{Params}
use Rattle.kindi.specs.Params.{WellFormed, modulus, half}
use Rattle.kindi.specs.Streams.{matrix, secret, key_error, low_part, ephemeral}
use Rattle.kindi.specs.Keys.{public, public_key, stored}
use Rattle.kindi.specs.Encrypt.{error, decompressed, factor, noiseless, ciphertext}
use Rattle.kindi.specs.Decrypt.{cipher_part, noisy_value}
use Rattle.kindi.specs.Noise.{key_noise, noise}
use Rattle.kindi.proofs.Made.{some-modulus, cipher_part_cong, matrix_seed_made, stored_made}

-- ---- integers and polynomials

-- A number without its remainder modulo m.
pub pos_floor : (m v : ℕ) → pos (m * (v / m)) ≡ pos v -ℤ pos (v % m)
pos_floor m v =
    sym (+ℤ-neg_ℤ_cancel (pos (m * (v / m))) (pos (v % m))) ∙ ap (λ (x : ℕ). pos x -ℤ pos (v % m)) (div-add-mod v m)

-- What stands in a sum and in what is taken off it goes out.
cancel_both : (t k g e f : ℤ) → (((t +ℤ k) +ℤ g) +ℤ e) -ℤ (t +ℤ f) ≡ g +ℤ ((k +ℤ e) -ℤ f)
cancel_both t k g e f =
    let front : (((t +ℤ k) +ℤ g) +ℤ e) -ℤ (t +ℤ f) ≡ (((g +ℤ ((k +ℤ e) -ℤ f)) +ℤ t) -ℤ t) = simp ring in
    front ∙ +ℤ-neg_ℤ_cancel (g +ℤ ((k +ℤ e) -ℤ f)) t

-- The parts of a decompressed coefficient, in the order of the noise.
regroup : (a e m w g : ℤ) → (((a +ℤ e) -ℤ m) +ℤ w) +ℤ g ≡ (a +ℤ ((w +ℤ e) -ℤ m)) +ℤ g
regroup a e m w g = simp ring

-- c times the polynomial 1 for the first of a vector, and 0 for the others.
abbrev pub lift : ℤ → ℕ → Poly
lift c i x = cond (eqb i 0) (c *ℤ unit x) (pos 0)

-- Its product with a vector is c times the first.
pub dot-lift : (ℓ n : ℕ) (c : ℤ) (v : ℕ → Poly) {k : ℕ} → 0 < ℓ → k < n → dot ℓ n (lift c) v k ≡ c *ℤ v 0 k
unfolding dot
dot-lift ℓ n c v {k} some h =
    sum_one ℓ (λ i. mul n (lift c i) (v i) k) 0 some (λ i l d. others i d)
    ∙ mul_scale n c unit (v 0) k ∙ ap (λ (x : ℤ). c *ℤ x) (mul-unit_l n (v 0) h)
  where
    others : (i : ℕ) → i ≢ 0 → mul n (lift c i) (v i) k ≡ pos 0
    others zero d = absurd (d refl)
    others (suc i) d =
        mul_ext n (lift c (suc i)) (λ x. pos 0 *ℤ unit x) (v (suc i)) (v (suc i))
        (λ x l. ap (λ (t : Bool). cond t (c *ℤ unit x) (pos 0)) (eqb-suc-zero i) ∙ sym (zero-*ℤ (unit x))) (λ x l. refl) h
        ∙ mul_scale n (pos 0) unit (v (suc i)) k ∙ zero-*ℤ (mul n unit (v (suc i)) k)

-- ---- the scheme

-- The product of two vectors of the set's size.
abbrev inner : Params → (ℕ → Poly) → (ℕ → Poly) → Poly
inner P u v = dot P.l P.n u v

-- A·r of a key, and the transpose of A times s.
abbrev key : Params → List ℕ → List ℕ → ℕ → Poly
key P μ γ = apply P.l P.n (matrix P μ) (secret P γ)

abbrev column : Params → List ℕ → List ℕ → ℕ → Poly
column P μ coins = apply P.l P.n (transposed (matrix P μ)) (ephemeral P coins)

module _ (P : Params) (W : WellFormed P) (μ γ coins : List ℕ) where
  -- The decompressed key is A r, the key's noise, and g for the first polynomial.
  decompressed_cong : (i x : ℕ) → i < P.l → x < P.n
      → Cong (modulus P) (decompressed P (public_key P μ γ) coins i x)
      ((key P μ γ i x +ℤ key_noise P μ γ coins i x) +ℤ lift (pos (half P)) i x)
  unfolding decompressed key_noise public
  decompressed_cong i x h l =
      let a : ℤ = key P μ γ i x in
      let g : ℤ = lift (pos (half P)) i x in
      let v : ℕ = residue (modulus P) (public P μ γ i x) in
      let m : ℤ = pos (v % 2 ^ P.t) in
      let low : ℤ = low_part P coins i x in
      let kept : pos (2 ^ P.t * stored P (public_key P μ γ) i x) ≡ pos v -ℤ m =
      ap (λ (c : ℕ). pos (2 ^ P.t * c)) (stored_made P W μ γ i x h l) ∙ pos_floor (2 ^ P.t) v in
      cong_trans (cong_of_eq (ap (λ (y : ℤ). (y +ℤ low) +ℤ g) kept))
      (cong_trans
      (cong_add (cong_add (cong_sub (residue_cong (some-modulus P) (public P μ γ i x)) (cong_refl m)) (cong_refl low)) (cong_refl g))
      (cong_of_eq (regroup a (key_error P γ i x) m low g)))

  -- Column j of A times s.
  noiseless_first : (j x : ℕ) → j < P.l → noiseless P (public_key P μ γ) coins j x ≡ column P μ coins j x
  unfolding noiseless factor
  noiseless_first j x h = rw (lt-ltb j P.l h, matrix_seed_made P W μ γ)

  -- The last polynomial without its error.
  noiseless_last : (x : ℕ) → x < P.n
      → Cong (modulus P) (noiseless P (public_key P μ γ) coins P.l x)
      ((inner P (key P μ γ) (ephemeral P coins) x +ℤ inner P (key_noise P μ γ coins) (ephemeral P coins) x)
      +ℤ pos (half P) *ℤ ephemeral P coins 0 x)
  unfolding noiseless factor decompressed
  noiseless_last x h =
      let s : ℕ → Poly = ephemeral P coins in
      let a : ℕ → Poly = key P μ γ in
      let k : ℕ → Poly = key_noise P μ γ coins in
      let g : ℕ → Poly = lift (pos (half P)) in
      let all : ℕ → Poly = λ i. plus (plus (a i) (k i)) (g i) in
      rw (le-ltb P.l P.l (le_refl P.l))
      (cong_trans
      (dot_cong P.l P.n (decompressed P (public_key P μ γ) coins) all s s decompressed_cong (λ i j _ _. cong_refl (s i j)) h)
      (cong_of_eq
      (dot-plus_l P.l P.n (λ i. plus (a i) (k i)) g s x
      ∙ ap₂ ◌+ℤ◌ (dot-plus_l P.l P.n a k s x) (dot-lift P.l P.n (pos (half P)) s W.some_polynomials h))))

  -- The polynomials of the ciphertext times the secret.
  dot_cipher : (message : List ℕ) (x : ℕ) → x < P.n
      → Cong (modulus P) (inner P (cipher_part P (ciphertext P (public_key P μ γ) coins message)) (secret P γ) x)
      (inner P (key P μ γ) (ephemeral P coins) x +ℤ inner P (error P coins message) (secret P γ) x)
  dot_cipher message x h =
      let s : ℕ → Poly = ephemeral P coins in
      let r : ℕ → Poly = secret P γ in
      let e : ℕ → Poly = error P coins message in
      let b : ℕ → Poly = column P μ coins in
      cong_trans
      (dot_cong P.l P.n (cipher_part P (ciphertext P (public_key P μ γ) coins message)) (λ j. plus (b j) (e j)) r r
      (λ j y l m. cong_trans (cipher_part_cong P (public_key P μ γ) coins message j y (omega arith) m)
      (cong_of_eq (ap (λ (z : ℤ). z +ℤ e j y) (noiseless_first j y l))))
      (λ j y _ _. cong_refl (r j y)) h)
      (cong_of_eq
      (dot-plus_l P.l P.n b e r x
      ∙ ap (λ (z : ℤ). z +ℤ inner P e r x) (sym (transpose_moves P.l P.n (matrix P μ) r s h))))

-- V is g·s₁ plus the noise, modulo q, coefficient by coefficient, for keys made from any seeds, and any coins and message.
pub value_is : (P : Params) → WellFormed P → (μ γ coins message : List ℕ) (x : ℕ) → x < P.n
    → Cong (modulus P) (noisy_value P γ (ciphertext P (public_key P μ γ) coins message) x)
    (pos (half P) *ℤ ephemeral P coins 0 x +ℤ noise P μ γ coins message x)
unfolding noisy_value noise
value_is P w μ γ coins message x h =
    let t : ℤ = inner P (key P μ γ) (ephemeral P coins) x in
    let k : ℤ = inner P (key_noise P μ γ coins) (ephemeral P coins) x in
    let e : ℤ = error P coins message P.l x in
    let f : ℤ = inner P (error P coins message) (secret P γ) x in
    cong_trans
    (cong_sub
    (cong_trans (cipher_part_cong P (public_key P μ γ) coins message P.l x (omega arith) h)
    (cong_add (noiseless_last P w μ γ coins x h) (cong_refl e)))
    (dot_cipher P w μ γ coins message x h))
    (cong_of_eq (cancel_both t k (pos (half P) *ℤ ephemeral P coins 0 x) e f))

-- What is read back of made strings: lengths and bytes of keys and ciphertexts, the parts of a key, and the coefficients of a
-- ciphertext and of a stored public key. Assumes nothing.
use mathlib.Core.Path.{◌≡◌, ap, ◌∙◌}
use mathlib.Core.List.{List, ◌++◌, map}
use Prim.Native.Nat.{ℕ, ◌+◌, ◌-◌, ◌*◌, ◌/◌, ◌^◌, ◌≤◌, ◌<◌}
use native.Mathlib.Nat.{mul-suc, mul-le-mul_left}
use native.Mathlib.Omega.{arith}
use lib.IntN.{pos}
use lib.ListN.{length, get_or, take, length-append}
use lib.Pow.{pow_pos, shr_lt}
use lib.Seq.{take_at, drop_at}
use Rattle.keccak.specs.Lists.{tabulate}
use Rattle.keccak.proofs.Entries.{tabulate_at, length-tabulate}
use Rattle.bits.specs.Bits.{Below, pack}
use Rattle.ring.specs.Integers.{Cong, residue}
use Rattle.ring.specs.Poly.{Poly, plus, residues}
use Rattle.bits.proofs.Filling.{map-tabulate}
use Rattle.ring.proofs.Modular.{residue_cong, residue_below, cong_of_eq, cong_trans}
use Rattle.ring.proofs.Residues.{residues_at, length-residues, residues_below}
use Rattle.kindi.specs.declared.Params.{Params}
use Rattle.kindi.specs.Params.{WellFormed, modulus, stored_length, public_length, secret_length, ciphertext_length}
use Rattle.kindi.specs.Streams.{coefficient}
use Rattle.kindi.specs.Keys.{joined, public, compress, public_key, secret_key, stored, matrix_seed, public_part, secret_seed}
use Rattle.kindi.specs.Encrypt.{error, noiseless, ciphertext}
use Rattle.kindi.specs.Decrypt.{cipher_part}
use Rattle.kindi.proofs.Strings.{place_below, tabulate_below, coefficient_packed, coefficient-append, whole_bytes, length_string, pack_below}

-- Coefficient x of polynomial j lies within m polynomials.
within : (w : ℕ) {m n j x : ℕ} → j < m → x < n → w * (j * n + x) + w ≤ w * (m * n)
within w {m} {n} {j} {x} h l = rw (mul-suc w (j * n + x)) at (mul-le-mul_left w (place_below h l))

-- The modulus is not 0.
pub some-modulus : (P : Params) → 0 < modulus P
some-modulus P = pow_pos P.k

-- Polynomial j of a ciphertext before it is taken modulo q, and after that.
abbrev pub unreduced : Params → List ℕ → List ℕ → List ℕ → ℕ → Poly
unreduced P pk coins message j = plus (noiseless P pk coins j) (error P coins message j)

abbrev pub sent : Params → List ℕ → List ℕ → List ℕ → ℕ → List ℕ
sent P pk coins message j = residues (modulus P) P.n (unreduced P pk coins message j)

-- Stored polynomial i of a public key before it is packed.
abbrev pub kept : Params → List ℕ → List ℕ → ℕ → List ℕ
kept P μ γ i = map (compress P.t) (residues (modulus P) P.n (public P μ γ i))

-- ---- ciphertexts

module _ (P : Params) (pk coins message : List ℕ) where
  -- A polynomial of a ciphertext has n coefficients.
  pub length-sent : (j : ℕ) → length (sent P pk coins message j) ≡ P.n
  length-sent j = length-residues (modulus P) P.n (unreduced P pk coins message j)

  -- A ciphertext has its length.
  pub length-ciphertext : WellFormed P → length (ciphertext P pk coins message) ≡ ciphertext_length P
  unfolding ciphertext
  length-ciphertext wf = length_string P wf (P.l + 1) P.k (sent P pk coins message) (λ j _. length-sent j)

  -- It is made of bytes.
  pub ciphertext_below : Below 256 (ciphertext P pk coins message)
  unfolding ciphertext
  ciphertext_below = pack_below P.k (joined (P.l + 1) (sent P pk coins message))

  -- Its coefficients are read back.
  pub ciphertext_at_lem : (j x : ℕ) → j < P.l + 1 → x < P.n
      → coefficient P.k P.n (ciphertext P pk coins message) j x ≡ residue (modulus P) (unreduced P pk coins message j x)
  unfolding ciphertext
  ciphertext_at_lem j x h l =
      coefficient_packed P.k P.n (P.l + 1) (sent P pk coins message) j x (λ i _. length-sent i)
      (λ i _. residues_below (some-modulus P) P.n (unreduced P pk coins message i)) h l
      ∙ residues_at (modulus P) P.n (unreduced P pk coins message j) l

  -- So its polynomials are those before, modulo q.
  pub cipher_part_cong : (j x : ℕ) → j < P.l + 1 → x < P.n
      → Cong (modulus P) (cipher_part P (ciphertext P pk coins message) j x) (unreduced P pk coins message j x)
  unfolding cipher_part
  cipher_part_cong j x h l =
      cong_trans (cong_of_eq (ap pos (ciphertext_at_lem j x h l))) (residue_cong (some-modulus P) (unreduced P pk coins message j x))

-- ---- keys

module _ (P : Params) (W : WellFormed P) (μ γ : List ℕ) where
  -- What is stored, by its entries.
  kept_is : (i : ℕ) → kept P μ γ i ≡ tabulate P.n (λ x. compress P.t (residue (modulus P) (public P μ γ i x)))
  unfolding residues
  kept_is i = map-tabulate (compress P.t) P.n (λ x. residue (modulus P) (public P μ γ i x))

  -- It has n of them.
  length-kept : (i : ℕ) → i < P.l → length (kept P μ γ i) ≡ P.n
  length-kept i h = ap length (kept_is i) ∙ length-tabulate P.n _

  -- They fit k − t bits.
  kept_below : (i : ℕ) → i < P.l → Below (2 ^ (P.k - P.t)) (kept P μ γ i)
  kept_below i h =
      let whole : P.k ≡ (P.k - P.t) + P.t = omega (arith, W.kept) in
      rw (kept_is i)
      (tabulate_below (2 ^ (P.k - P.t)) P.n _ (pow_pos (P.k - P.t))
      (λ x l. shr_lt (P.k - P.t) P.t (rw (← whole) (residue_below (some-modulus P) (public P μ γ i x)))))

  -- The bytes before μ.
  length-stored : length (pack (P.k - P.t) (joined P.l (kept P μ γ))) ≡ stored_length P
  length-stored = length_string P W P.l (P.k - P.t) (kept P μ γ) length-kept

  -- A public key has its length.
  pub length-public_key : length μ ≡ P.seed → length (public_key P μ γ) ≡ public_length P
  unfolding public_key
  length-public_key e = length-append (pack (P.k - P.t) (joined P.l (kept P μ γ))) μ ∙ rw (length-stored, e)

  -- Its seed is μ.
  pub matrix_seed_made : matrix_seed P (public_key P μ γ) ≡ μ
  unfolding public_key matrix_seed
  matrix_seed_made = drop_at (pack (P.k - P.t) (joined P.l (kept P μ γ))) μ (stored_length P) length-stored

  -- Its polynomials are those of b without their low t bits.
  pub stored_made : (i x : ℕ) → i < P.l → x < P.n
      → stored P (public_key P μ γ) i x ≡ residue (modulus P) (public P μ γ i x) / 2 ^ P.t
  unfolding public_key stored
  stored_made i x h l =
      let w : ℕ = P.k - P.t in
      let room : w * (i * P.n + x) + w ≤ 8 * length (pack w (joined P.l (kept P μ γ))) =
      rw (length-stored, ← whole_bytes P W P.l w) (within w h l) in
      coefficient-append w P.n (pack w (joined P.l (kept P μ γ))) μ i x (pack_below w (joined P.l (kept P μ γ))) room
      ∙ coefficient_packed w P.n P.l (kept P μ γ) i x length-kept kept_below h l
      ∙ ap (λ (c : List ℕ). get_or c x 0) (kept_is i)
      ∙ tabulate_at P.n _ x 0 l

  module _ (z : List ℕ) where
    -- A secret key has its length.
    pub length-secret_key : length μ ≡ P.seed → length γ ≡ P.seed → length z ≡ P.seed → length (secret_key P μ γ z) ≡ secret_length P
    unfolding secret_key
    length-secret_key a b c =
        length-append (public_key P μ γ) (γ ++ z) ∙ rw (length-public_key a, length-append γ z, b, c)

    -- Its public key.
    pub public_part_made : length μ ≡ P.seed → public_part P (secret_key P μ γ z) ≡ public_key P μ γ
    unfolding secret_key public_part
    public_part_made a = take_at (public_key P μ γ) (γ ++ z) (public_length P) (length-public_key a)

    -- Its seed is γ.
    pub secret_seed_made : length μ ≡ P.seed → length γ ≡ P.seed → secret_seed P (secret_key P μ γ z) ≡ γ
    unfolding secret_key secret_seed
    secret_seed_made a b =
        ap (take P.seed) (drop_at (public_key P μ γ) (γ ++ z) (public_length P) (length-public_key a))
        ∙ take_at γ z P.seed b

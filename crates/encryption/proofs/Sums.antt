-- Laws of the ℓ + 1 sums that `add_noiseless` adds a ciphertext without its errors to. Assumes nothing.
use mathlib.Core.Path.{◌≡◌, refl, sym, ap, ap₂, ◌∙◌}
use mathlib.Core.Bool.{true}
use mathlib.Core.List.{List, ◌++◌}
use Prim.Native.Nat.{ℕ, ◌+◌, ◌-◌, ◌*◌, ◌≤◌, ◌<◌}
use native.Mathlib.Nat.{add-mul, one-mul}
use native.Mathlib.Numerals.{add-one}
use native.Mathlib.Omega.{arith}
use borrow.Author.Tests.{lt-ltb}
use lib.IntN.{ℤ, pos, ◌+ℤ◌}
use lib.ListN.{length, take, drop, length-take}
use lib.Seq.{take_at, drop_at, get_or-take, get_or-drop}
use Rattle.keccak.specs.Lists.{patched}
use Rattle.keccak.proofs.Parts.{patched-rest, take_rest}
use Rattle.ring.specs.Poly.{Poly, plus, dot, transposed, of_nats, parts, residues}
use Rattle.ring.proofs.Modular.{cong_of_eq}
use Rattle.ring.proofs.Residues.{residues_ext}
use Rattle.kindi.specs.declared.Params.{Params}
use Rattle.kindi.specs.Params.{stored_length}
use Rattle.kindi.specs.Streams.{matrix, ephemeral}
use Rattle.kindi.specs.Keys.{joined, matrix_seed}
use Rattle.kindi.specs.Encrypt.{factor, noiseless}
use Rattle.kindi.proofs.Strings.{place_below}
use Rattle.vectors.specs.Vectors.{vector}
use Rattle.vectors.proofs.Congruent.{vector_near}
use Rattle.vectors.proofs.Reading.{vector_cong}
use Rattle.matrix.specs.Product.{with_matrix}
use Rattle.matrix.proofs.Replaced.{product_of}
use Rattle.cipher_terms.specs.Terms.{TermsExit}
use Rattle.encryption.specs.Inputs.{NoiselessRoom}
use Rattle.encryption.specs.Noiseless.{NoiselessExit}

-- A vector with one polynomial more.
vector_next : (m n : ℕ) (f : ℕ → Poly) → vector (m + 1) n f ≡ vector m n f ++ residues 65536 n (f m)
unfolding vector joined
vector_next m n f = rw (add-one m) refl

-- The first polynomials of a ciphertext are the products of the columns of A with s.
noiseless_first : (P : Params) (pk coins : List ℕ) (j x : ℕ) → j < P.l
    → dot P.l P.n (transposed (matrix P (matrix_seed P pk)) j) (ephemeral P coins) x ≡ noiseless P pk coins j x
unfolding noiseless factor
noiseless_first P pk coins j x h = rw (lt-ltb j P.l h)

-- A list of which all from v on is replaced.
module _ (v : ℕ) (xs ys : List ℕ) (inside : v ≤ length xs) where
  first_size : length (take v xs) ≡ v
  first_size = simp length-take (omega arith)

  first_kept : take v (patched v (length xs - v) ys xs) ≡ take v xs
  first_kept = ap (take v) (patched-rest v ys xs) ∙ take_at (take v xs) ys v first_size

  last_put : drop v (patched v (length xs - v) ys xs) ≡ ys
  last_put = ap (drop v) (patched-rest v ys xs) ∙ drop_at (take v xs) ys v first_size

module _ {P : Params} {pk coins : List ℕ} {at : ℕ} {work s sums : List ℕ} (room : NoiselessRoom P pk coins at work s sums) where
  -- The first ℓ sums and the last.
  sums_size : P.l * P.n + P.n ≡ length sums
  sums_size = sym (room.sums_long ∙ add-mul P.l 1 P.n ∙ ap (λ (k : ℕ). P.l * P.n + k) (one-mul P.n))

  module _ {s' d : List ℕ} (terms : TermsExit P pk coins (take (length sums - P.l * P.n) (drop (P.l * P.n) sums)) s' d) where
    -- What `add_noiseless` leaves.
    pub noiseless_exit : (a m : ℕ) (bytes : List ℕ) {c : List ℕ} → a ≡ stored_length P
        → c ≡ with_matrix P (take (length pk - a) (drop a pk)) true s'
        (take (P.l * P.n) (patched (P.l * P.n) (length sums - P.l * P.n) d sums))
        → NoiselessExit P pk coins at work sums (patched at (at + m - at) bytes work)
        (c ++ drop (P.l * P.n) (patched (P.l * P.n) (length sums - P.l * P.n) d sums))
    unfolding matrix_seed
    noiseless_exit a m bytes {c} ea isC =
        let n : ℕ = P.n in
        let v : ℕ = P.l * n in
        let F : ℕ → Poly = λ j. plus (noiseless P pk coins j) (parts n sums j) in
        let inside : v ≤ length sums = omega (arith, sums_size) in
        let seed : take (length pk - a) (drop a pk) ≡ matrix_seed P pk = take_rest a pk ∙ ap (λ (i : ℕ). drop i pk) ea in
        let first : c ≡ vector P.l n F
        = isC ∙ ap₂ (λ (μ xs : List ℕ). with_matrix P μ true s' xs) seed (first_kept v sums d inside)
        ∙ product_of P (matrix_seed P pk) true s' (take v sums) (ephemeral P coins) (parts n sums)
        (λ i x h l. rw terms.secret_is (vector_cong P.l n (ephemeral P coins) i x h l))
        (λ i x h l. cong_of_eq (ap pos (get_or-take v sums (i * n + x) 0 (place_below h l))))
        ∙ vector_near P.l n _ F (λ j x h l. cong_of_eq (ap (λ (z : ℤ). z +ℤ parts n sums j x) (noiseless_first P pk coins j x h))) in
        let last : d ≡ residues 65536 n (F P.l)
        = terms.sum_is ∙ residues_ext 65536 n _ (F P.l) (λ x l. ap (λ (z : ℤ). noiseless P pk coins P.l x +ℤ z)
        (ap (λ (xs : List ℕ). of_nats xs x) (take_rest v sums) ∙ ap pos (get_or-drop v sums x 0))) in
        let begun : at ≤ length work = omega (arith, room.polynomial_fits) in
        record {
          sums_are = ap₂ ◌++◌ first (last_put v sums d inside ∙ last) ∙ sym (vector_next P.l n F);
          kept = take_at (take at work) (bytes ++ drop (at + m - at) (drop at work)) at (first_size at work bytes begun);
        }

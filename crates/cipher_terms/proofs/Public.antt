-- Laws of what `add_public` adds: D without its errors. Assumes nothing.
use mathlib.Core.Path.{◌≡◌, sym, ap, ap₂, ◌∙◌}
use mathlib.Core.List.{List}
use Prim.Native.Nat.{ℕ, ◌+◌, ◌-◌, ◌*◌, ◌<◌, suc-le-suc, zero-le}
use native.Mathlib.Nat.{le_refl}
use native.Mathlib.Numerals.{add-one}
use native.Mathlib.Omega.{arith}
use borrow.Author.Tests.{le-ltb}
use lib.IntN.{ℤ, pos, ◌+ℤ◌, +ℤ_idl}
use lib.ListN.{length, take, drop}
use lib.Seq.{get_or-take, get_or-drop}
use Rattle.keccak.proofs.Parts.{take_rest}
use Rattle.bits.specs.Bits.{Below}
use Rattle.ring.specs.Integers.{Cong}
use Rattle.ring.specs.Poly.{Poly, sum, plus, mul, dot, of_nats, parts, residues}
use Rattle.ring.specs.Coefficients.{with_product}
use Rattle.ring.proofs.Integers.{ring}
use Rattle.ring.proofs.Modular.{cong_add, cong_refl, cong_of_eq, cong_trans}
use Rattle.ring.proofs.Residues.{residues_cong, residues_ext, residues_of_list, of_nats-residues}
use Rattle.ring.proofs.Ring.{mul_cong, dot_cong}
use Rattle.kindi.specs.declared.Params.{Params}
use Rattle.kindi.specs.Params.{low_length, padded_length, high_length}
use Rattle.kindi.specs.Streams.{low_in, low_part, ephemeral_by, ephemeral}
use Rattle.kindi.specs.Encrypt.{decompressed_by, decompressed, factor, noiseless}
use Rattle.vectors.specs.Vectors.{vector}
use Rattle.vectors.proofs.Reading.{vector_cong}
use Rattle.cipher_terms.specs.Inputs.{StreamOf, TermsRoom}
use Rattle.cipher_terms.specs.Terms.{with_products, TermsExit}
use Rattle.cipher_terms.proofs.Masks.{there_low, there_high, there_rest}

-- What meets s in the last polynomial.
factor_last : (P : Params) (pk coins : List ℕ) (i x : ℕ) → decompressed_by P pk (low_part P coins) i x ≡ factor P pk coins P.l i x
unfolding factor decompressed
factor_last P pk coins i x = rw (le-ltb P.l P.l (le_refl P.l))

-- ---- the products of P with s

module _ (P : Params) (pk low s d : List ℕ) where
  -- None is added yet.
  pub products_none : length d ≡ P.n → Below 65536 d → d ≡ with_products P pk low s 0 d
  unfolding with_products dot sum
  products_none long below =
      sym (residues_of_list 65536 d below) ∙ ap (λ (m : ℕ). residues 65536 m (of_nats d)) long
      ∙ residues_ext 65536 P.n (of_nats d) _ (λ x _. sym (+ℤ_idl (of_nats d x)))

  -- A turn adds one more.
  pub products_more : (i : ℕ) {ys f zs : List ℕ} → length ys ≡ P.n → ys ≡ with_products P pk low s i d
      → f ≡ residues 65536 P.n (decompressed_by P pk (low_in P low) i)
      → zs ≡ with_product ys f (take (i * P.n + P.n - i * P.n) (drop (i * P.n) s))
      → zs ≡ with_products P pk low s (i + 1) d
  unfolding with_products dot sum
  products_more i {ys} {f} {zs} long isY isF isZ =
      let n : ℕ = P.n in
      let F : ℕ → Poly = decompressed_by P pk (low_in P low) in
      let before : Poly = plus (dot i n F (parts n s)) (of_nats d) in
      let at : ℕ = i * n in
      let part : List ℕ = take (at + n - at) (drop at s) in
      rw (add-one i)
      (isZ ∙ ap (λ (m : ℕ). residues 65536 m (plus (of_nats ys) (mul m (of_nats f) (of_nats part)))) long
      ∙ residues_cong (suc-le-suc zero-le) n _ _ (λ x l.
      cong_trans
      (cong_add
      (cong_trans (cong_of_eq (ap (λ (xs : List ℕ). of_nats xs x) isY)) (of_nats-residues (suc-le-suc zero-le) n before l))
      (mul_cong n (of_nats f) (F i) (of_nats part) (parts n s i)
      (λ y q. cong_trans (cong_of_eq (ap (λ (xs : List ℕ). of_nats xs y) isF)) (of_nats-residues (suc-le-suc zero-le) n (F i) q))
      (λ y q. cong_of_eq (ap pos (get_or-take (at + n - at) (drop at s) y 0 (omega arith) ∙ get_or-drop at s y 0)))
      l))
      (cong_of_eq (moved (dot i n F (parts n s) x) (mul n (F i) (parts n s i) x) (of_nats d x)))))
    where
      moved : (a t b : ℤ) → (a +ℤ b) +ℤ t ≡ (a +ℤ t) +ℤ b
      moved a t b = simp ring

-- ---- D without its errors

-- What `add_public` leaves, from the parts of the stream that it reads.
pub public_exit : {P : Params} {pk coins stream f w s d : List ℕ} (e h : ℕ) {s' d' : List ℕ} → TermsRoom P pk coins stream f w s d
    → e ≡ low_length P + padded_length P → h ≡ high_length P
    → s' ≡ vector P.l P.n (ephemeral_by P coins
    (take (length stream - e) (drop e stream)) (take (length stream - (e + h)) (drop (e + h) stream)))
    → d' ≡ with_products P pk stream s' P.l d → TermsExit P pk coins d s' d'
unfolding with_products noiseless ephemeral
public_exit {P} {pk} {coins} {stream} {f} {w} {s} {d} e h {s'} {d'} room ee eh isS isD =
    let n : ℕ = P.n in
    let has : StreamOf P coins stream = room.stream_there in
    let high : take (length stream - e) (drop e stream) ≡ _
    = take_rest e stream ∙ ap (λ (i : ℕ). drop i stream) ee ∙ there_high has in
    let rest : take (length stream - (e + h)) (drop (e + h) stream) ≡ _
    = take_rest (e + h) stream ∙ ap (λ (i : ℕ). drop i stream) (ap₂ ◌+◌ ee eh) ∙ there_rest has in
    let secret : s' ≡ vector P.l n (ephemeral P coins)
    = isS ∙ ap₂ (λ (x y : List ℕ). vector P.l n (ephemeral_by P coins x y)) high rest in
    let first : (i x : ℕ) → i < P.l → x < n → Cong 65536 (decompressed_by P pk (low_in P stream) i x) (factor P pk coins P.l i x)
    = λ i x p q. cong_of_eq (low_same i x (there_low has room.well i x p q) ∙ factor_last P pk coins i x) in
    let second : (i x : ℕ) → i < P.l → x < n → Cong 65536 (parts n s' i x) (ephemeral P coins i x)
    = λ i x p q. rw secret (vector_cong P.l n (ephemeral P coins) i x p q) in
    record {
      secret_is = secret;
      sum_is = isD ∙ residues_cong (suc-le-suc zero-le) n _ _ (λ x l.
          cong_add
          (dot_cong P.l n (decompressed_by P pk (low_in P stream)) (factor P pk coins P.l) (parts n s') (ephemeral P coins) first second l)
          (cong_refl (of_nats d x)));
    }
  where
    low_same : (i x : ℕ) → low_in P stream i x ≡ low_part P coins i x
        → decompressed_by P pk (low_in P stream) i x ≡ decompressed_by P pk (low_part P coins) i x
    low_same i x e = rw e

-- The walk over the polynomials of A: what the stream and the sums are when the polynomial in row i and column j is next. Assumes
-- nothing.
use mathlib.Core.Path.{◌≡◌, refl, sym, ap, ◌∙◌}
use mathlib.Core.Bool.{Bool, true, false, cond}
use mathlib.Core.List.{List}
use Prim.Native.Nat.{ℕ, suc, ◌+◌, ◌*◌, ◌<◌}
use native.Mathlib.Nat.{zero-mul, suc-mul}
use native.Mathlib.Omega.{arith}
use lib.IntN.{ℤ, ◌+ℤ◌, +ℤ_idl}
use lib.ListN.{length}
use Rattle.hash.specs.Stream.{Sound, fresh, absorbed, finished, squeezed, advanced}
use Rattle.hash.specs.declared.sponge.Sponge.{Sponge}
use Rattle.hash.proofs.Steps.{sound_fresh, sound_absorbed, sound_finished, sound_advanced, advanced-add}
use Rattle.hash.proofs.Laws.{squeezed-from}
use Rattle.bits.specs.Bits.{Below, unpack}
use Rattle.ring.specs.Integers.{Cong}
use Rattle.ring.specs.Poly.{Poly, sum, plus, mul, dot, of_nats, parts}
use Rattle.ring.proofs.Integers.{ring}
use Rattle.ring.proofs.Modular.{cong_of_eq, cong_trans, cong_add}
use Rattle.ring.proofs.Ring.{sides, mul_ext}
use Rattle.kindi.specs.declared.Params.{Params}
use Rattle.kindi.specs.Params.{WellFormed, length_of, polynomial_length}
use Rattle.kindi.specs.Streams.{matrix_list, matrix}
use Rattle.vectors.proofs.Amounts.{length-add, length_none}
use Rattle.vectors.proofs.Congruent.{vector_of}
use Rattle.matrix.specs.Product.{oriented, with_matrix}
use Rattle.matrix.specs.Walk.{stream_at, Added, Stepped}
use Rattle.matrix.proofs.Counts.{count, count-start, count_end, count_here, count_more, count_same, count_next}

-- ---- the stream

-- At its start no polynomial has been read.
pub stream_start : (P : Params) (μ : List ℕ) → finished (absorbed (fresh P.rate) μ) ≡ stream_at P μ 0
unfolding stream_at advanced
stream_start P μ = rw (length_none P P.k) refl

-- It is sound wherever it is.
stream_sound : (P : Params) → WellFormed P → (μ : List ℕ) (m : ℕ) → Sound (stream_at P μ m)
unfolding stream_at
stream_sound P W μ m =
    sound_advanced _ (length_of P m P.k) (sound_finished _ (sound_absorbed _ μ (sound_fresh P.rate W.some_rate W.rate_fits)))

-- It goes on from polynomial to polynomial.
stream_next : (P : Params) (μ : List ℕ) (m : ℕ) → advanced (stream_at P μ m) (polynomial_length P) ≡ stream_at P μ (m + 1)
unfolding stream_at
stream_next P μ m =
    let s : Sponge = finished (absorbed (fresh P.rate) μ) in
    sym (advanced-add s (length_of P m P.k) (polynomial_length P)) ∙ ap (advanced s) (sym (length-add P m 1 P.k))

-- What it gives next is the next polynomial.
stream_gives : (P : Params) → WellFormed P → (μ : List ℕ) (m : ℕ)
    → unpack P.k P.n (squeezed (stream_at P μ m) (polynomial_length P)) ≡ matrix_list P μ m
unfolding stream_at matrix_list
stream_gives P W μ m = ap (unpack P.k P.n) (squeezed-from P.rate μ (length_of P m P.k) (polynomial_length P) W.some_rate W.rate_fits)

-- ---- the sums

-- Sum b with its first c products.
abbrev part_sum : Params → List ℕ → Bool → List ℕ → List ℕ → ℕ → ℕ → Poly
part_sum P μ columns v sums c b = plus (dot c P.n (oriented columns (matrix P μ) b) (parts P.n v)) (parts P.n sums b)

-- The walk when the polynomial in row i and column j is next.
pub record Walking (P : Params) (μ : List ℕ) (columns : Bool) (v sums₀ : List ℕ) (i j : ℕ) (s : Sponge) (sums : List ℕ) : Type 0 where
  pub stream : s ≡ stream_at P μ (i * P.l + j)
  pub long : length sums ≡ P.l * P.n
  pub words : Below 65536 sums
  pub held : (b x : ℕ) → b < P.l → x < P.n → Cong 65536 (parts P.n sums b x) (part_sum P μ columns v sums₀ (count columns P.l i j b) b x)

-- It begins with no product.
pub walking_begun : (P : Params) (μ : List ℕ) (columns : Bool) (v sums : List ℕ) {s : Sponge} → length sums ≡ P.l * P.n
    → Below 65536 sums → s ≡ stream_at P μ 0 → Walking P μ columns v sums 0 0 s sums
unfolding dot sum
walking_begun P μ columns v sums long words e =
    record {
      stream = e ∙ ap (stream_at P μ) none;
      long = long;
      words = words;
      held = λ b x _ _. rw (count-start columns P.l b) (cong_of_eq (sym (+ℤ_idl (parts P.n sums b x))));
    }
  where
    none : 0 ≡ 0 * P.l + 0
    none = omega (arith, zero-mul P.l)

-- One product more: it may be added before what the sum began with.
moved : (d t s : ℤ) → (d +ℤ s) +ℤ t ≡ (d +ℤ t) +ℤ s
moved d t s = simp ring

-- The polynomial that is fetched stands where the sum wants it.
oriented_here : (columns : Bool) (A : ℕ → ℕ → Poly) (i j : ℕ) → oriented columns A (cond columns j i) (cond columns i j) ≡ A i j
oriented_here true A i j = refl
oriented_here false A i j = refl

module _ {P : Params} {μ : List ℕ} {columns : Bool} {v sums₀ : List ℕ} {i j : ℕ} {s : Sponge} {sums : List ℕ} (W : WellFormed P)
    (h : Walking P μ columns v sums₀ i j s sums) where
  pub walking_sound : Sound s
  walking_sound = rw h.stream (stream_sound P W μ (i * P.l + j))

  -- Its list is that of A.
  fetched_is : unpack P.k P.n (squeezed s (polynomial_length P)) ≡ matrix_list P μ (i * P.l + j)
  fetched_is =
      ap (λ (t : Sponge). unpack P.k P.n (squeezed t (polynomial_length P))) h.stream ∙ stream_gives P W μ (i * P.l + j)

  fetched_matrix : (x : ℕ) → of_nats (unpack P.k P.n (squeezed s (polynomial_length P))) x
      ≡ oriented columns (matrix P μ) (cond columns j i) (cond columns i j) x
  unfolding matrix
  fetched_matrix x = ap (λ (l : List ℕ). of_nats l x) fetched_is ∙ sym (ap (λ (f : Poly). f x) (oriented_here columns (matrix P μ) i j))

  -- The sum that it goes to has one product more.
  held_more : {sums' : List ℕ} → Added P.n (cond columns i j) (cond columns j i) (unpack P.k P.n (squeezed s (polynomial_length P))) v sums sums'
      → cond columns j i < P.l → (x : ℕ) → x < P.n
      → Cong 65536 (parts P.n sums' (cond columns j i) x) (part_sum P μ columns v sums₀ (suc (cond columns i j)) (cond columns j i) x)
  unfolding dot sum
  held_more {sums'} added inside x l =
      let from : ℕ = cond columns i j in
      let to : ℕ = cond columns j i in
      let u : ℕ → Poly = oriented columns (matrix P μ) to in
      let d : ℤ = dot from P.n u (parts P.n v) x in
      let t : ℤ = mul P.n (u from) (parts P.n v from) x in
      let had : Cong 65536 (parts P.n sums to x) (part_sum P μ columns v sums₀ from to x)
      = rw count_here at (h.held to x inside l) in
      cong_trans (added.there x l)
      (cong_trans (cong_add had (cong_of_eq (same x l))) (cong_of_eq (moved d t (parts P.n sums₀ to x))))
    where
      same : (x : ℕ) → x < P.n → mul P.n (of_nats (unpack P.k P.n (squeezed s (polynomial_length P)))) (parts P.n v (cond columns i j)) x
          ≡ mul P.n (oriented columns (matrix P μ) (cond columns j i) (cond columns i j)) (parts P.n v (cond columns i j)) x
      same x l = mul_ext P.n _ _ _ _ (λ y _. fetched_matrix y) (λ y _. refl) l

  -- The place of the sum is one of ℓ.
  target_inside : i < P.l → j < P.l → cond columns j i < P.l
  target_inside row column = either columns
    where
      either : (t : Bool) → cond t j i < P.l
      either true = column
      either false = row

  -- After the polynomial the next one of its row is due.
  pub walking_more : {s' : Sponge} {sums' : List ℕ} → i < P.l → j < P.l → length sums' ≡ length sums → Stepped P s columns i j v sums s' sums'
      → Walking P μ columns v sums₀ i (j + 1) s' sums'
  walking_more {s'} {sums'} row column same stepped =
      record {
        stream = stepped.stream ∙ ap (λ (t : Sponge). advanced t (polynomial_length P)) h.stream ∙ stream_next P μ (i * P.l + j)
            ∙ ap (stream_at P μ) next;
        long = same ∙ h.long;
        words = stepped.added.words h.words;
        held = λ b x k l.
            sides b (cond columns j i)
            (λ g. sides (cond columns j i) b
            (λ q. here b x l (omega arith))
            (λ q. other b x k l (λ e. absurd (omega arith))))
            (λ g. other b x k l (λ e. absurd (omega arith)));
      }
    where
      next : i * P.l + j + 1 ≡ i * P.l + (j + 1)
      next = omega arith

      here : (b x : ℕ) → x < P.n → b ≡ cond columns j i
          → Cong 65536 (parts P.n sums' b x) (part_sum P μ columns v sums₀ (count columns P.l i (j + 1) b) b x)
      here b x l e = rw (e, count_more columns P.l i j) (held_more stepped.added (target_inside row column) x l)

      other : (b x : ℕ) → b < P.l → x < P.n → (b ≡ cond columns j i → ⊥)
          → Cong 65536 (parts P.n sums' b x) (part_sum P μ columns v sums₀ (count columns P.l i (j + 1) b) b x)
      other b x k l e =
          rw (count_same columns P.l i j b e) (cong_trans (cong_of_eq (stepped.added.others b x l e)) (h.held b x k l))

  -- After the last one of its row the first one of the next row is due.
  pub walking_next : j ≡ P.l → Walking P μ columns v sums₀ (i + 1) 0 s sums
  walking_next last =
      record {
        stream = h.stream ∙ ap (stream_at P μ) next;
        long = h.long;
        words = h.words;
        held = λ b x k l. rw (count_next columns P.l i b k) (rw last at (h.held b x k l));
      }
    where
      next : i * P.l + j ≡ (i + 1) * P.l + 0
      next = omega (arith, suc-mul i P.l)

  -- After the last row every sum has all its products.
  pub walking_end : i ≡ P.l → j ≡ 0 → sums ≡ with_matrix P μ columns v sums₀
  unfolding with_matrix
  walking_end row column =
      vector_of P.l P.n sums _ h.long h.words (λ b x k l. rw (row, column, count_end columns {b = b} k) at (h.held b x k l))

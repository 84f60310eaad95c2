-- One polynomial fetched, and its product added to one of several sums. Assumes nothing.
use mathlib.Core.Path.{◌≡◌, refl, sym, ap, ap₂, ◌∙◌}
use mathlib.Core.Bool.{Bool, true, false, cond}
use mathlib.Core.List.{List, ◌++◌}
use Prim.Native.Nat.{ℕ, ◌+◌, ◌-◌, ◌*◌, ◌≤◌, ◌<◌, suc-le-suc, zero-le}
use native.Mathlib.Nat.{add-sub_cancel_left, mul-le-mul_right, suc-mul}
use native.Mathlib.Omega.{arith}
use lib.IntN.{pos, ◌+ℤ◌}
use lib.ListN.{length, get_or, take, drop, length-take, get_or-append}
use lib.Seq.{get_or-take, get_or-drop, get_or-append-add}
use Rattle.keccak.specs.Lists.{patched}
use Rattle.hash.specs.Stream.{Squeezed, squeezed, advanced}
use Rattle.hash.specs.declared.sponge.Sponge.{Sponge}
use Rattle.keccak.proofs.Parts.{take-patched, drop-patched}
use Rattle.bits.specs.Bits.{Below, unpack}
use Rattle.ring.specs.Poly.{Poly, plus, mul, of_nats, parts, residues}
use Rattle.ring.specs.Coefficients.{with_product}
use Rattle.ring.proofs.Modular.{cong_of_eq, cong_trans}
use Rattle.ring.proofs.Residues.{of_nats-residues, residues_below, length-residues}
use Rattle.ring.proofs.Ring.{sides, mul_ext}
use Rattle.product.proofs.Dots.{row_fits, rows_few}
use Rattle.kindi.specs.declared.Params.{Params}
use Rattle.kindi.specs.Params.{WellFormed}
use Rattle.vectors.proofs.Amounts.{part_length}
use Rattle.matrix.specs.Walk.{FetchRoom, Fetched, TermRoom, Added, Stepped}

-- ---- a list with a part replaced

module _ (a k : ℕ) (ys xs : List ℕ) (e : length ys ≡ k) (h : a + k ≤ length xs) where
  abbrev changed : List ℕ
  changed = patched a k ys xs

  front : length (take a xs) ≡ a
  front = simp length-take (omega arith)

  -- Its entries before the part, in it, and behind it.
  entry_before : (y : ℕ) → y < a → get_or changed y 0 ≡ get_or xs y 0
  entry_before y l =
      sym (get_or-take (a + k) changed y 0 (omega arith)) ∙ ap (λ (zs : List ℕ). get_or zs y 0) (take-patched a k ys xs e h)
      ∙ get_or-append (take a xs) ys 0 y (rw front l) ∙ get_or-take a xs y 0 l

  entry_in : (x : ℕ) → x < k → get_or changed (a + x) 0 ≡ get_or ys x 0
  entry_in x l =
      sym (get_or-take (a + k) changed (a + x) 0 (omega arith)) ∙ ap (λ (zs : List ℕ). get_or zs (a + x) 0) (take-patched a k ys xs e h)
      ∙ ap (λ (z : ℕ). get_or (take a xs ++ ys) (z + x) 0) (sym front) ∙ get_or-append-add (take a xs) ys x 0

  entry_behind : (z : ℕ) → get_or changed (a + k + z) 0 ≡ get_or xs (a + k + z) 0
  entry_behind z =
      sym (get_or-drop (a + k) changed z 0) ∙ ap (λ (zs : List ℕ). get_or zs z 0) (drop-patched a k ys xs e h) ∙ get_or-drop (a + k) xs z 0

  -- Words stay words.
  words_stay : Below 65536 xs → Below 65536 ys → Below 65536 changed
  words_stay bx by y =
      sides a y
      (λ l. sides (a + k) y
      (λ g. behind (y - (a + k)) (omega arith))
      (λ g. inside (y - a) (omega arith) (omega arith)))
      (λ l. rw (entry_before y l) (bx y))
    where
      behind : (z : ℕ) → y ≡ a + k + z → get_or changed y 0 < 65536
      behind z p = rw (p, entry_behind z) (bx (a + k + z))

      inside : (x : ℕ) → y ≡ a + x → x < k → get_or changed y 0 < 65536
      inside x p l = rw (p, entry_in x l) (by x)

-- ---- the product

-- Part b of a list of parts of n entries is another part's neighbour.
below_part : {b to : ℕ} (n x : ℕ) → x < n → b < to → b * n + x < to * n
below_part {b} {to} n x l h = omega (arith, mul-le-mul_right n h, suc-mul b n)

above_part : {b to : ℕ} (n : ℕ) → to < b → to * n + n ≤ b * n
above_part {b} {to} n h = omega (arith, mul-le-mul_right n h, suc-mul to n)

-- What `add_term` leaves.
pub term_added : (n from to : ℕ) (a v sums : List ℕ) {ys : List ℕ} → TermRoom n from to a v sums
    → ys ≡ with_product (take (to * n + n - to * n) (drop (to * n) sums)) a (take (from * n + n - from * n) (drop (from * n) v))
    → Added n from to a v sums (patched (to * n) (to * n + n - to * n) ys sums)
term_added n from to a v sums {ys} r made =
    rw long (record {
      there = λ x l.
          cong_trans (cong_of_eq (ap pos (entry_in (to * n) n ys sums ys_long r.to_there x l)))
          (cong_trans (cong_of_eq (ap (λ (zs : List ℕ). of_nats zs x) is))
          (cong_trans (of_nats-residues (suc-le-suc zero-le) n sum l) (cong_of_eq (read x l))));
      others = λ b x l other.
          sides to b
          (λ g.
          let after : to < b = sides b to (λ q. absurd (other (omega arith))) (λ q. q) in
          behind b x (b * n + x - (to * n + n)) (omega (arith, above_part n after)))
          (λ g. ap pos (entry_before (to * n) n ys sums ys_long r.to_there (b * n + x) (below_part n x l g)));
      words = λ below. words_stay (to * n) n ys sums ys_long r.to_there below words;
    })
  where
    long : to * n + n - to * n ≡ n
    long = add-sub_cancel_left (to * n) n

    before : List ℕ
    before = take (to * n + n - to * n) (drop (to * n) sums)

    factor : List ℕ
    factor = take (from * n + n - from * n) (drop (from * n) v)

    before_long : length before ≡ n
    before_long = part_length (to * n) n sums r.to_there

    sum : Poly
    sum = plus (of_nats before) (mul n (of_nats a) (of_nats factor))

    is : ys ≡ residues 65536 n sum
    is = made ∙ ap (λ (m : ℕ). residues 65536 m (plus (of_nats before) (mul m (of_nats a) (of_nats factor)))) before_long

    ys_long : length ys ≡ n
    ys_long = ap length is ∙ length-residues 65536 n sum

    words : Below 65536 ys
    words = rw is (residues_below (suc-le-suc zero-le) n sum)

    part : (i x : ℕ) (xs : List ℕ) → x < n → get_or (take (i * n + n - i * n) (drop (i * n) xs)) x 0 ≡ get_or xs (i * n + x) 0
    part i x xs l = get_or-take (i * n + n - i * n) (drop (i * n) xs) x 0 (omega arith) ∙ get_or-drop (i * n) xs x 0

    read : (x : ℕ) → x < n → sum x ≡ parts n sums to x +ℤ mul n (of_nats a) (parts n v from) x
    read x l =
        ap₂ ◌+ℤ◌ (ap pos (part to x sums l))
        (mul_ext n (of_nats a) (of_nats a) (of_nats factor) (parts n v from) (λ y _. refl) (λ y q. ap pos (part from y v q)) l)

    behind : (b x z : ℕ) → b * n + x ≡ to * n + n + z → parts n (patched (to * n) n ys sums) b x ≡ parts n sums b x
    behind b x z p = ap pos (rw p (entry_behind (to * n) n ys sums ys_long r.to_there z))

-- ---- the next polynomial

-- What `fetch` leaves.
pub fetched : {P : Params} {s r : Sponge} {bytes a bytes' a' : List ℕ} → FetchRoom P s bytes a → Squeezed s (length bytes) r bytes'
    → a' ≡ unpack P.k (length a) bytes' → Fetched P s r a'
fetched {P} {s} room given read =
    record {
      stream = given.sponge ∙ ap (advanced s) room.bytes_long;
      list = read ∙ ap₂ (unpack P.k) room.list_long (given.bytes ∙ ap (squeezed s) room.bytes_long);
    }

-- Polynomial `from` of v and sum `to` are among ℓ.
pub term_room : (P : Params) → WellFormed P → {from to : ℕ} (a v sums : List ℕ) → length a ≡ P.n → length v ≡ P.l * P.n
    → length sums ≡ P.l * P.n → from < P.l → to < P.l → TermRoom P.n from to a v sums
term_room P W a v sums ea ev es h l =
    let few : P.l * P.n ≤ 4096 = rows_few W.few W.short in
    record {
      short = W.short;
      factor_long = ea;
      from_there = rw ev (row_fits P.n h);
      vector_short = rw ev few;
      to_there = rw es (row_fits P.n l);
      sums_short = rw es few;
    }

-- A number that is one of two is where both are.
pub selected_inside : {r i j l : ℕ} (first : Bool) → r ≡ cond first i j → i < l → j < l → r < l
selected_inside true e h k = rw e h
selected_inside false e h k = rw e k

-- What `step` leaves.
pub stepped : {P : Params} {s r : Sponge} {columns : Bool} {i j from to : ℕ} {v a sums sums' : List ℕ} → Fetched P s r a
    → from ≡ cond columns i j → to ≡ cond columns j i → Added P.n from to a v sums sums' → Stepped P s columns i j v sums r sums'
stepped got ef et added = record { stream = got.stream; added = rw (ef, et, got.list) at added }

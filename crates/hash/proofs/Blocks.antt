-- The sponge that goes byte by byte does what FIPS 202's algorithm 8 does block by block. Assumes nothing.
use mathlib.Core.Path.{◌≡◌, refl, sym, ap, ap₂, ◌∙◌, subst}
use mathlib.Core.List.{List, [], ◌++◌}
use mathlib.Core.Logic.{⊎_elim}
use Prim.Native.Nat.{ℕ, zero, suc, ◌+◌, ◌-◌, ◌*◌, ◌/◌, ◌%◌, ◌≤◌, ◌<◌}
use native.Mathlib.Nat.{add-zero, zero-add, le_refl, add-div_left, add-mod_left, mod-eq_of_lt, div-eq_of_lt, mul-div_cancel, div-add-mod'}
use native.Mathlib.Nat.{mod-lt, eq-or-lt_of_le, not-suc-le-zero, le_of_suc-le-suc}
use native.Mathlib.Numerals.{add-one}
use native.Mathlib.Omega.{arith}
use lib.ListN.{length, get_or, take, drop, replicate, length-append, length-take, length-drop, take-append-drop, drop_of_length-le}
use Rattle.hash.proofs.Padding.{length-last_bytes, padding_is, padding-mod}
use Rattle.hash.proofs.Steps.{sponge, ready_full, ready_room, sound_fresh, absorbed-append, absorbed-ready, absorbed-part}
use Rattle.hash.proofs.Steps.{rate_absorbed, place_absorbed, squeezed-ready, passed_room}
use Rattle.keccak.specs.Strings.{permute, xor_into}
use Rattle.hash.specs.Shake.{padding, absorb_blocks, absorb_all, permutes}
use Rattle.hash.specs.Stream.{Sound, fresh, permuted, ready, absorbed, finished, next_byte, squeezed}
use Rattle.hash.specs.declared.sponge.Sponge.{Sponge}

-- ---- absorbing

-- A sponge at the start of a block, and one whose block is full.
abbrev pub start : ℕ → List ℕ → Sponge
start r b = sponge b 0 r

ready_of_full : (r : ℕ) (b : List ℕ) → ready (sponge b r r) ≡ start r (permute b)
unfolding permuted
ready_of_full r b = ready_full (sponge b r r) refl

sound_full : (r : ℕ) (b : List ℕ) → 0 < r → r ≤ 200 → Sound (sponge b r r)
sound_full r b pos fits = record { some_rate = pos; rate_fits = fits; place = le_refl r }

-- The first block fills the sponge.
first_absorbed : (r : ℕ) (b p : List ℕ) → r ≤ length p
    → absorbed (start r b) p ≡ absorbed (sponge (xor_into b (take r p)) r r) (drop r p)
first_absorbed r b p h =
    let long : length (take r p) ≡ r = simp length-take (omega arith) in
    let full : 0 + length (take r p) ≡ r = zero-add _ ∙ long in
    ap (absorbed (start r b)) (sym (take-append-drop r p)) ∙ sym (absorbed-append (start r b) (take r p) (drop r p))
    ∙ ap (λ (t : Sponge). absorbed t (drop r p))
    (absorbed-part b 0 r (take r p) (omega arith) ∙ ap (λ (k : ℕ). sponge (xor_into b (take r p)) k r) full)

-- Bytes that are whole blocks are absorbed block by block.
blocks_absorbed : (r n : ℕ) (b p : List ℕ) → 0 < r → r ≤ 200 → length p ≡ suc n * r
    → ready (absorbed (start r b) p) ≡ start r (absorb_blocks r (suc n) b p)
unfolding absorb_blocks absorbed
blocks_absorbed r zero b p pos fits e =
    let none : drop r p ≡ [] = drop_of_length-le p {i = r} (omega arith) in
    ap ready (first_absorbed r b p (omega arith) ∙ ap (absorbed (sponge (xor_into b (take r p)) r r)) none)
    ∙ ready_of_full r (xor_into b (take r p))
blocks_absorbed r (suc n) b p pos fits e =
    let full = sponge (xor_into b (take r p)) r r in
    let rest : length (drop r p) ≡ suc n * r = length-drop r p ∙ omega arith in
    ap ready
    (first_absorbed r b p (omega arith)
    ∙ absorbed-ready full (drop r p) (sound_full r _ pos fits) (omega arith)
    ∙ ap (λ (t : Sponge). absorbed t (drop r p)) (ready_of_full r (xor_into b (take r p))))
    ∙ blocks_absorbed r n (permute (xor_into b (take r p))) (drop r p) pos fits rest

-- The message with its padding is one block more than the message has whole ones.
length-padded : (r : ℕ) (m : List ℕ) → 0 < r → length (m ++ padding r (length m)) ≡ suc (length m / r) * r
length-padded r m pos =
    let k = r - 1 - length m % r in
    let within : length m % r < r = mod-lt (length m) pos in
    let pad : length (padding r (length m)) ≡ suc k = ap length (padding_is r (length m) k (omega arith)) ∙ length-last_bytes k in
    length-append m (padding r (length m)) ∙ omega (arith, div-add-mod' (length m) r)

-- A sponge pads by its place as FIPS 202 pads by the message's length.
padding-absorbed : (r : ℕ) (m : List ℕ) → 0 < r → r ≤ 200
    → padding (absorbed (fresh r) m).rate (absorbed (fresh r) m).at ≡ padding r (length m)
unfolding fresh
padding-absorbed r m pos fits =
    let s = absorbed (fresh r) m in
    let sound = sound_fresh r pos fits in
    ap (λ (x : ℕ). padding x s.at) (rate_absorbed (fresh r) m sound) ∙ padding-mod r s.at
    ∙ ap (padding r) (place_absorbed (fresh r) m sound ∙ ap (λ (x : ℕ). x % r) (zero-add (length m))) ∙ sym (padding-mod r (length m))

-- The sponge that has taken the message and its padding stands at the start of FIPS 202's first block of output.
pub finished_is : (r : ℕ) (m : List ℕ) → 0 < r → r ≤ 200 → ready (finished (absorbed (fresh r) m)) ≡ start r (absorb_all r m)
unfolding finished fresh absorb_all
finished_is r m pos fits =
    let p = m ++ padding r (length m) in
    let long = length-padded r m pos in
    ap ready (ap (absorbed (absorbed (fresh r) m)) (padding-absorbed r m pos fits) ∙ absorbed-append (fresh r) m (padding r (length m)))
    ∙ blocks_absorbed r (length m / r) (replicate 200 0) p pos fits long
    ∙ ap (λ (n : ℕ). start r (absorb_blocks r n (replicate 200 0) p))
    (sym (ap (λ (x : ℕ). x / r) long ∙ mul-div_cancel (suc (length m / r)) pos))

-- ---- squeezing

permutes-after : (n : ℕ) (b : List ℕ) → permutes n (permute b) ≡ permute (permutes n b)
unfolding permutes
permutes-after zero b = refl
permutes-after (suc n) b = ap permute (permutes-after n b)

-- Byte j from place k of a string's output: it stands (k + j) / r permutations on, at (k + j) mod r.
abbrev pub output_byte : ℕ → List ℕ → ℕ → ℕ
output_byte r b i = get_or (permutes (i / r) b) (i % r) 0

-- One block on is one permutation on.
output_byte_block : (r i : ℕ) (b : List ℕ) → 0 < r → output_byte r (permute b) i ≡ output_byte r b (r + i)
unfolding permutes
output_byte_block r i b pos =
    ap₂ (λ (l : List ℕ) (k : ℕ). get_or l k 0)
    (permutes-after (i / r) b ∙ sym (ap (λ (n : ℕ). permutes n b) (add-div_left i pos ∙ add-one (i / r))))
    (sym (add-mod_left r i))

output_byte_here : (r k : ℕ) (b : List ℕ) → k < r → get_or b k 0 ≡ output_byte r b k
unfolding permutes
output_byte_here r k b h =
    ap₂ (λ (l : List ℕ) (i : ℕ). get_or l i 0) (sym (ap (λ (n : ℕ). permutes n b) (div-eq_of_lt h))) (sym (mod-eq_of_lt h))

next_byte_room : (b : List ℕ) (k r : ℕ) → k < r → next_byte (sponge b k r) ≡ get_or b k 0
unfolding next_byte
next_byte_room b k r h = ap (λ (t : Sponge). get_or t.bytes t.at 0) (ready_room (sponge b k r) h)

-- What the first n bytes of any sponge are says what the first n + 1 are of one with a place left.
room_at : (r n : ℕ) → ((j k : ℕ) (b : List ℕ) → k ≤ r → j < n → get_or (squeezed (sponge b k r) n) j 0 ≡ output_byte r b (k + j))
    → (j k : ℕ) (b : List ℕ) → k < r → j < suc n → get_or (squeezed (sponge b k r) (suc n)) j 0 ≡ output_byte r b (k + j)
unfolding squeezed
room_at r n before zero k b l h = next_byte_room b k r l ∙ output_byte_here r k b l ∙ ap (output_byte r b) (sym (add-zero k))
room_at r n before (suc j) k b l h =
    let next : k + 1 + j ≡ k + suc j = omega arith in
    ap (λ (t : Sponge). get_or (squeezed t n) j 0) (passed_room b k r l) ∙ before j (k + 1) b (omega arith) (le_of_suc-le-suc h)
    ∙ ap (output_byte r b) next

pub squeezed_at : (r : ℕ) → 0 < r → r ≤ 200 → (n j k : ℕ) (b : List ℕ) → k ≤ r → j < n
    → get_or (squeezed (sponge b k r) n) j 0 ≡ output_byte r b (k + j)
squeezed_at r pos fits zero j k b within h = absurd (not-suc-le-zero h)
squeezed_at r pos fits (suc n) j k b within h =
    let before = squeezed_at r pos fits n in
    ⊎_elim
    (λ (e : k ≡ r).
    subst (λ (x : ℕ). get_or (squeezed (sponge b x r) (suc n)) j 0 ≡ output_byte r b (x + j)) (sym e)
    (ap (λ (l : List ℕ). get_or l j 0)
    (squeezed-ready (sponge b r r) (suc n) (sound_full r b pos fits) ∙ ap (λ (t : Sponge). squeezed t (suc n)) (ready_of_full r b))
    ∙ room_at r n before j 0 (permute b) pos h ∙ ap (output_byte r (permute b)) (zero-add j) ∙ output_byte_block r j b pos))
    (λ (l : k < r). room_at r n before j k b l h)
    (eq-or-lt_of_le within)

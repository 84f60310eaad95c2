-- Laws of the sponge that takes and gives one byte after another: soundness, pieces, and a part within a block.
-- Assumes nothing.
use mathlib.Core.Path.{◌≡◌, refl, sym, ap, ap₂, ◌∙◌, subst}
use mathlib.Core.Bool.{Bool, cond}
use mathlib.Core.List.{List, [], ◌∷◌, ◌++◌, append_assoc}
use mathlib.Core.Logic.{⊎_elim}
use Prim.Native.Nat.{ℕ, zero, suc, ◌+◌, ◌-◌, ◌%◌, ◌≤◌, ◌<◌}
use native.Mathlib.Nat.{add-zero, zero-add, add-mod_right, mod-add-mod, eq-or-lt_of_le, not-suc-le-zero}
use native.Mathlib.Numerals.{add-one}
use native.Mathlib.Omega.{arith}
use borrow.Author.Tests.{eq-eqb, ne_eqb}
use lib.Bits.{bit_xor}
use lib.ListN.{length, get_or, take, drop, set, take-append-drop, length-take, length-drop}
use lib.Seq.{drop-cons, take_all}
use Rattle.keccak.specs.Lists.{patched}
use Rattle.keccak.proofs.Parts.{length-patched, patched-rest, take-patched, take_rest, xor_into_nothing}
use Rattle.keccak.specs.Strings.{xor_into}
use Rattle.hash.specs.Stream.{Sound, Squeezed, fresh, permuted, ready, absorb_byte, absorbed, finished, next_byte, passed, squeezed, advanced}
use Rattle.hash.specs.declared.sponge.Sponge.{Sponge}

-- A sponge by its three fields.
abbrev pub sponge : List ℕ → ℕ → ℕ → Sponge
sponge b k r = record { bytes = b; at = k; rate = r }

-- ---- ready

pub ready_full : (s : Sponge) → s.at ≡ s.rate → ready s ≡ permuted s
unfolding ready
ready_full s e = ap (λ (t : Bool). cond t (permuted s) s) (eq-eqb s.at s.rate e)

pub ready_other : (s : Sponge) → (s.at ≡ s.rate → ⊥) → ready s ≡ s
unfolding ready
ready_other s h = ap (λ (t : Bool). cond t (permuted s) s) (ne_eqb s.at s.rate h)

pub ready_room : (s : Sponge) → s.at < s.rate → ready s ≡ s
ready_room s h = ready_other s (λ e. omega arith)

-- What is known of a sponge with a place left.
pub record Ready (s t : Sponge) : Type 0 where
  pub room : t.at < t.rate
  pub rate : t.rate ≡ s.rate
  pub fits : t.rate ≤ 200
  pub again : ready t ≡ t
  pub place : t.at % s.rate ≡ s.at % s.rate

full_ready : (s : Sponge) → Sound s → s.at ≡ s.rate → Ready s (permuted s)
unfolding permuted
full_ready s h e =
    record {
      room = h.some_rate;
      rate = refl;
      fits = h.rate_fits;
      again = ready_room (permuted s) h.some_rate;
      place = sym (add-mod_right 0 s.rate) ∙ ap (λ (k : ℕ). k % s.rate) (sym (e ∙ sym (omega arith)));
    }

-- Every sound sponge has a place left once it is ready.
is_ready : (s : Sponge) → Sound s → Ready s (ready s)
is_ready s h = ⊎_elim
    (λ (e : s.at ≡ s.rate). subst (Ready s) (sym (ready_full s e)) (full_ready s h e))
    (λ (l : s.at < s.rate). subst (Ready s) (sym (ready_room s l))
    (record { room = l; rate = refl; fits = h.rate_fits; again = ready_room s l; place = refl }))
    (eq-or-lt_of_le h.place)

pub is_ready_as : (s t : Sponge) → Sound s → t ≡ ready s → Ready s t
is_ready_as s t h e = subst (Ready s) (sym e) (is_ready s h)

-- ---- soundness

pub sound_fresh : (r : ℕ) → 0 < r → r ≤ 200 → Sound (fresh r)
unfolding fresh
sound_fresh r p q = record { some_rate = p; rate_fits = q; place = omega arith }

sound_step : (s : Sponge) (b : List ℕ) → Sound s → Sound (sponge b ((ready s).at + 1) (ready s).rate)
sound_step s b h =
    let t = is_ready s h in
    record { some_rate = omega (arith, t.room); rate_fits = omega (arith, t.rate, h.rate_fits); place = omega (arith, t.room) }

sound_absorb_byte : (s : Sponge) (b : ℕ) → Sound s → Sound (absorb_byte s b)
unfolding absorb_byte
sound_absorb_byte s b h = sound_step s _ h

pub sound_absorbed : (s : Sponge) (xs : List ℕ) → Sound s → Sound (absorbed s xs)
unfolding absorbed
sound_absorbed s [] h = h
sound_absorbed s (b ∷ bs) h = sound_absorbed (absorb_byte s b) bs (sound_absorb_byte s b h)

pub sound_finished : (s : Sponge) → Sound s → Sound (finished s)
unfolding finished
sound_finished s h = sound_absorbed s _ h

sound_passed : (s : Sponge) → Sound s → Sound (passed s)
unfolding passed
sound_passed s h = sound_step s _ h

pub sound_advanced : (s : Sponge) (n : ℕ) → Sound s → Sound (advanced s n)
unfolding advanced
sound_advanced s zero h = h
sound_advanced s (suc n) h = sound_advanced (passed s) n (sound_passed s h)

-- ---- pieces

-- Absorbing in pieces is absorbing the joined list.
pub absorbed-append : (s : Sponge) (xs ys : List ℕ) → absorbed (absorbed s xs) ys ≡ absorbed s (xs ++ ys)
unfolding absorbed
absorbed-append s [] ys = refl
absorbed-append s (b ∷ bs) ys = absorbed-append (absorb_byte s b) bs ys

-- Squeezing in pieces is squeezing at once: the bytes.
pub squeezed-append : (s : Sponge) (m n : ℕ) → squeezed s (m + n) ≡ squeezed s m ++ squeezed (advanced s m) n
unfolding squeezed advanced
squeezed-append s zero n = ap (squeezed s) (zero-add n)
squeezed-append s (suc m) n =
    let e : suc m + n ≡ suc (m + n) = omega arith in
    ap (squeezed s) e ∙ ap (λ (l : List ℕ). next_byte s ∷ l) (squeezed-append (passed s) m n)

-- Squeezing in pieces is squeezing at once: the sponge.
pub advanced-add : (s : Sponge) (m n : ℕ) → advanced s (m + n) ≡ advanced (advanced s m) n
unfolding advanced
advanced-add s zero n = ap (advanced s) (zero-add n)
advanced-add s (suc m) n =
    let e : suc m + n ≡ suc (m + n) = omega arith in
    ap (advanced s) e ∙ advanced-add (passed s) m n

pub length-squeezed : (s : Sponge) (n : ℕ) → length (squeezed s n) ≡ n
unfolding squeezed
length-squeezed s zero = refl
length-squeezed s (suc n) = ap suc (length-squeezed (passed s) n)

-- ---- what a sponge gives or takes next is what it gives or takes once it is ready

pub absorbed-ready : (s : Sponge) (xs : List ℕ) → Sound s → 0 < length xs → absorbed s xs ≡ absorbed (ready s) xs
unfolding absorbed absorb_byte
absorbed-ready s [] h l = absurd (not-suc-le-zero l)
absorbed-ready s (b ∷ bs) h l =
    ap (λ (t : Sponge). absorbed (sponge (set t.bytes t.at (bit_xor (get_or t.bytes t.at 0) b)) (t.at + 1) t.rate) bs)
    (sym (is_ready s h).again)

pub squeezed-ready : (s : Sponge) (n : ℕ) → Sound s → squeezed s n ≡ squeezed (ready s) n
unfolding squeezed next_byte passed
squeezed-ready s zero h = refl
squeezed-ready s (suc n) h =
    ap (λ (t : Sponge). get_or t.bytes t.at 0 ∷ squeezed (sponge t.bytes (t.at + 1) t.rate) n) (sym (is_ready s h).again)

advanced-ready : (s : Sponge) (n : ℕ) → Sound s → 0 < n → advanced s n ≡ advanced (ready s) n
unfolding advanced passed
advanced-ready s zero h l = absurd (not-suc-le-zero l)
advanced-ready s (suc n) h l = ap (λ (t : Sponge). advanced (sponge t.bytes (t.at + 1) t.rate) n) (sym (is_ready s h).again)

-- ---- the rate, and the place modulo the rate

rate_absorb_byte : (s : Sponge) (b : ℕ) → Sound s → (absorb_byte s b).rate ≡ s.rate
unfolding absorb_byte
rate_absorb_byte s b h = (is_ready s h).rate

pub rate_absorbed : (s : Sponge) (xs : List ℕ) → Sound s → (absorbed s xs).rate ≡ s.rate
unfolding absorbed
rate_absorbed s [] h = refl
rate_absorbed s (b ∷ bs) h = rate_absorbed (absorb_byte s b) bs (sound_absorb_byte s b h) ∙ rate_absorb_byte s b h

place_absorb_byte : (s : Sponge) (b n : ℕ) → Sound s → ((absorb_byte s b).at + n) % s.rate ≡ (s.at + suc n) % s.rate
unfolding absorb_byte
place_absorb_byte s b n h =
    let r = s.rate in
    let one : (ready s).at + 1 + n ≡ (ready s).at + suc n = omega arith in
    ap (λ (k : ℕ). k % r) one ∙ sym (mod-add-mod (ready s).at r (suc n))
    ∙ ap (λ (k : ℕ). (k + suc n) % r) (is_ready s h).place ∙ mod-add-mod s.at r (suc n)

-- The place counts what was absorbed, modulo the rate.
pub place_absorbed : (s : Sponge) (xs : List ℕ) → Sound s → (absorbed s xs).at % s.rate ≡ (s.at + length xs) % s.rate
unfolding absorbed
place_absorbed s [] h = ap (λ (k : ℕ). k % s.rate) (sym (add-zero s.at))
place_absorbed s (b ∷ bs) h =
    subst (λ (r : ℕ). (absorbed (absorb_byte s b) bs).at % r ≡ ((absorb_byte s b).at + length bs) % r) (rate_absorb_byte s b h)
    (place_absorbed (absorb_byte s b) bs (sound_absorb_byte s b h))
    ∙ place_absorb_byte s b (length bs) h

-- ---- a part that the block has room for

xor_into-step : (l : List ℕ) (i b : ℕ) (bs : List ℕ)
    → take (suc i) (set l i (bit_xor (get_or l i 0) b)) ++ xor_into (drop (suc i) (set l i (bit_xor (get_or l i 0) b))) bs
    ≡ take i l ++ xor_into (drop i l) (b ∷ bs)
unfolding xor_into
xor_into-step [] zero b bs = refl
xor_into-step [] (suc i) b bs = refl
xor_into-step (x ∷ l) zero b bs = refl
xor_into-step (x ∷ l) (suc i) b bs = ap (λ (r : List ℕ). x ∷ r) (xor_into-step l i b bs)

absorb_byte_room : (b : List ℕ) (k r x : ℕ) → k < r → absorb_byte (sponge b k r) x ≡ sponge (set b k (bit_xor (get_or b k 0) x)) (k + 1) r
unfolding absorb_byte
absorb_byte_room b k r x h =
    ap (λ (t : Sponge). sponge (set t.bytes t.at (bit_xor (get_or t.bytes t.at 0) x)) (t.at + 1) t.rate)
    (ready_room (sponge b k r) h)

-- Absorbing a part adds it into the string at the sponge's place.
pub absorbed-part : (b : List ℕ) (k r : ℕ) (xs : List ℕ) → k + length xs ≤ r
    → absorbed (sponge b k r) xs ≡ sponge (take k b ++ xor_into (drop k b) xs) (k + length xs) r
unfolding absorbed
absorbed-part b k r [] h =
    sym (ap₂ (λ (l : List ℕ) (n : ℕ). sponge l n r)
    (ap (λ (l : List ℕ). take k b ++ l) (xor_into_nothing (drop k b)) ∙ take-append-drop k b)
    (add-zero k))
absorbed-part b k r (x ∷ xs) h =
    let written = set b k (bit_xor (get_or b k 0) x) in
    let next : k + 1 + length xs ≡ k + suc (length xs) = omega arith in
    ap (λ (t : Sponge). absorbed t xs) (absorb_byte_room b k r x (omega arith))
    ∙ absorbed-part written (k + 1) r xs (omega arith)
    ∙ ap₂ (λ (l : List ℕ) (n : ℕ). sponge l n r)
    (ap (λ (n : ℕ). take n written ++ xor_into (drop n written) xs) (add-one k) ∙ xor_into-step b k x xs)
    next

pub passed_room : (b : List ℕ) (k r : ℕ) → k < r → passed (sponge b k r) ≡ sponge b (k + 1) r
unfolding passed
passed_room b k r h = ap (λ (t : Sponge). sponge t.bytes (t.at + 1) t.rate) (ready_room (sponge b k r) h)

-- Squeezing a part reads the string at the sponge's place.
squeezed-part : (b : List ℕ) (k r n : ℕ) → k + n ≤ r → k + n ≤ length b → squeezed (sponge b k r) n ≡ take n (drop k b)
unfolding squeezed next_byte
squeezed-part b k r zero h l = refl
squeezed-part b k r (suc n) h l =
    ap₂ (λ (t : Sponge) (bs : List ℕ). get_or t.bytes t.at 0 ∷ bs)
    (ready_room (sponge b k r) (omega arith))
    (ap (λ (t : Sponge). squeezed t n) (passed_room b k r (omega arith)) ∙ squeezed-part b (k + 1) r n (omega arith) (omega arith)
    ∙ ap (λ (i : ℕ). take n (drop i b)) (add-one k))
    ∙ sym (ap (take (suc n)) (drop-cons b k 0 (omega arith)))

advanced-part : (b : List ℕ) (k r n : ℕ) → k + n ≤ r → advanced (sponge b k r) n ≡ sponge b (k + n) r
unfolding advanced
advanced-part b k r zero h = ap (λ (i : ℕ). sponge b i r) (sym (add-zero k))
advanced-part b k r (suc n) h =
    let next : k + 1 + n ≡ k + suc n = omega arith in
    ap (λ (t : Sponge). advanced t n) (passed_room b k r (omega arith)) ∙ advanced-part b (k + 1) r n (omega arith)
    ∙ ap (λ (i : ℕ). sponge b i r) next

-- ---- a turn of the loops: a part more

-- A part that was added into the string where the sponge stands.
pub part-absorbed : (s : Sponge) (n : ℕ) (ys xs : List ℕ) → length s.bytes ≡ n → s.at + length xs ≤ s.rate
    → ys ≡ xor_into (take (n - s.at) (drop s.at s.bytes)) xs
    → sponge (patched s.at (n - s.at) ys s.bytes) (s.at + length xs) s.rate ≡ absorbed s xs
part-absorbed s n ys xs e h wrote =
    let b = s.bytes in
    let k = s.at in
    let whole : patched k (length b - k) ys b ≡ take k b ++ xor_into (drop k b) xs =
    patched-rest k ys b
    ∙ ap (λ (l : List ℕ). take k b ++ l)
    (subst (λ (m : ℕ). ys ≡ xor_into (take (m - k) (drop k b)) xs) (sym e) wrote ∙ ap (λ (l : List ℕ). xor_into l xs) (take_rest k b))
    in
    ap (λ (l : List ℕ). sponge l (k + length xs) s.rate) (ap (λ (m : ℕ). patched k (m - k) ys b) (sym e) ∙ whole)
    ∙ sym (absorbed-part b k s.rate xs h)

-- A part that was passed over.
pub part_skipped : (s : Sponge) (n : ℕ) → s.at + n ≤ s.rate → sponge s.bytes (s.at + n) s.rate ≡ advanced s n
part_skipped s n h = sym (advanced-part s.bytes s.at s.rate n h)

-- A part that was read from the string where the sponge stands.
pub part-squeezed : (s : Sponge) (n : ℕ) (ys : List ℕ) → s.at + n ≤ s.rate → s.at + n ≤ length s.bytes
    → ys ≡ take (s.at + n - s.at) (drop s.at s.bytes) → Squeezed s n (sponge s.bytes (s.at + n) s.rate) ys
part-squeezed s n ys h l is =
    let same : s.at + n - s.at ≡ n = omega arith in
    record {
      sponge = part_skipped s n h;
      bytes = is ∙ ap (λ (k : ℕ). take k (drop s.at s.bytes)) same ∙ sym (squeezed-part s.bytes s.at s.rate n h l);
    }

-- ---- what the loops carry

-- `absorb`: the sponge has absorbed what was taken of the input, and the rest is left.
pub record Absorbing (s₀ : Sponge) (input : List ℕ) (s : Sponge) (rest : List ℕ) : Type 0 where
  pub begun : Sound s₀
  pub taken : List ℕ
  pub split : input ≡ taken ++ rest
  pub is : s ≡ absorbed s₀ taken

pub absorbing_begun : (s : Sponge) (input : List ℕ) → Sound s → Absorbing s input s input
unfolding absorbed
absorbing_begun s input h = record { begun = h; taken = []; split = refl; is = refl }

absorbed_nothing : (s : Sponge) (rest : List ℕ) → length rest ≡ 0 → absorbed s rest ≡ s
unfolding absorbed
absorbed_nothing s [] none = refl
absorbed_nothing s (b ∷ bs) none = cc

module _ {s₀ : Sponge} {input : List ℕ} {s : Sponge} {rest : List ℕ} (h : Absorbing s₀ input s rest) where
  pub absorbing_sound : Sound s
  absorbing_sound = subst Sound (sym h.is) (sound_absorbed s₀ h.taken h.begun)

  -- The next bytes of the rest.
  pub absorbing_more : {t u : Sponge} (part later : List ℕ) → t ≡ ready s → 0 < length part → rest ≡ part ++ later → u ≡ absorbed t part
      → Absorbing s₀ input u later
  absorbing_more {u = u} part later is-t some parts is-u =
      record {
        begun = h.begun;
        taken = h.taken ++ part;
        split = h.split ∙ ap (λ (l : List ℕ). h.taken ++ l) parts ∙ sym (append_assoc h.taken part later);
        is =
            is-u ∙ ap (λ (v : Sponge). absorbed v part) is-t ∙ sym (absorbed-ready s part absorbing_sound some)
            ∙ ap (λ (v : Sponge). absorbed v part) h.is ∙ absorbed-append s₀ h.taken part;
      }

  -- After the last turn.
  pub absorbing_all : length rest ≡ 0 → s ≡ absorbed s₀ input
  absorbing_all none =
      sym (absorbed_nothing s rest none) ∙ ap (λ (v : Sponge). absorbed v rest) h.is ∙ absorbed-append s₀ h.taken rest
      ∙ ap (absorbed s₀) (sym h.split)

-- `skip`: with what is left the sponge will have advanced by all n bytes.
pub record Skipping (s₀ : Sponge) (n : ℕ) (s : Sponge) (left : ℕ) : Type 0 where
  pub sound : Sound s
  pub is : advanced s left ≡ advanced s₀ n

-- A part that was passed over by a sponge that was made ready.
part_passed : {s t u : Sponge} (k : ℕ) → Sound s → t ≡ ready s → 0 < k → u ≡ advanced t k → u ≡ advanced s k
part_passed {s} k sound is-t some is-u = is-u ∙ ap (λ (v : Sponge). advanced v k) is-t ∙ sym (advanced-ready s k sound some)

module _ {s₀ : Sponge} {n : ℕ} {s : Sponge} {left : ℕ} (h : Skipping s₀ n s left) where
  -- The next k bytes.
  pub skipping_more : {t u : Sponge} (k : ℕ) → t ≡ ready s → 0 < k → k ≤ left → u ≡ advanced t k → Skipping s₀ n u (left - k)
  skipping_more k is-t some room is-u =
      let took = part_passed k h.sound is-t some is-u in
      let parts : k + (left - k) ≡ left = omega arith in
      record {
        sound = subst Sound (sym took) (sound_advanced s k h.sound);
        is =
            ap (λ (v : Sponge). advanced v (left - k)) took ∙ sym (advanced-add s k (left - k)) ∙ ap (advanced s) parts ∙ h.is;
      }

  -- After the last turn.
  pub skipping_all : left ≤ 0 → s ≡ advanced s₀ n
  unfolding advanced
  skipping_all last =
      let none : 0 ≡ left = omega arith in
      ap (advanced s) none ∙ h.is

-- `squeeze`: the sponge has advanced by `done` bytes, and the output up to `done` is what the sponge gave first.
pub record Squeezing (s₀ : Sponge) (output₀ : List ℕ) (done : ℕ) (s : Sponge) (output : List ℕ) : Type 0 where
  pub sound : Sound s
  pub within : done ≤ length output₀
  pub sponge : s ≡ advanced s₀ done
  pub long : length output ≡ length output₀
  pub bytes : take done output ≡ squeezed s₀ done

pub squeezing_begun : (s : Sponge) (output : List ℕ) → Sound s → Squeezing s output 0 s output
unfolding squeezed advanced
squeezing_begun s output h = record { sound = h; within = omega arith; sponge = refl; long = refl; bytes = refl }

module _ {s₀ : Sponge} {output₀ : List ℕ} {done : ℕ} {s : Sponge} {output : List ℕ} (h : Squeezing s₀ output₀ done s output) where
  -- The next k bytes.
  pub squeezing_more : {t : Sponge} (k : ℕ) {u : Sponge} {ys : List ℕ} → t ≡ ready s → 0 < k → done + k ≤ length output₀
      → Squeezed t (length (take (done + k - done) (drop done output))) u ys
      → Squeezing s₀ output₀ (done + k) u (patched done (done + k - done) ys output)
  squeezing_more {t} k {u} {ys} is-t some room gave =
      let step : done + k - done ≡ k = omega arith in
      let inside : done + k ≤ length output = omega (arith, h.long) in
      let size : length (take (done + k - done) (drop done output)) ≡ k = simp (length-take, length-drop) (omega arith) in
      let long : length ys ≡ k = ap length gave.bytes ∙ length-squeezed t _ ∙ size in
      let next : ys ≡ squeezed (advanced s₀ done) k =
      gave.bytes ∙ ap (squeezed t) size ∙ ap (λ (v : Sponge). squeezed v k) is-t ∙ sym (squeezed-ready s k h.sound)
      ∙ ap (λ (v : Sponge). squeezed v k) h.sponge
      in
      let took = part_passed k h.sound is-t some (gave.sponge ∙ ap (advanced t) size) in
      rw step
      (record {
        sound = subst Sound (sym took) (sound_advanced s k h.sound);
        within = room;
        sponge = took ∙ ap (λ (v : Sponge). advanced v k) h.sponge ∙ sym (advanced-add s₀ done k);
        long = length-patched done k ys output long inside ∙ h.long;
        bytes = take-patched done k ys output long inside ∙ ap₂ ◌++◌ h.bytes next ∙ sym (squeezed-append s₀ done k);
      })

  -- After the last turn.
  pub squeezing_all : length output₀ ≤ done → Squeezed s₀ (length output₀) s output
  squeezing_all last =
      let all : done ≡ length output₀ = omega (arith, h.within) in
      let full : length output ≤ done = omega (arith, h.long) in
      record {
        sponge = h.sponge ∙ ap (advanced s₀) all;
        bytes = sym (take_all done output full) ∙ h.bytes ∙ ap (squeezed s₀) all;
      }

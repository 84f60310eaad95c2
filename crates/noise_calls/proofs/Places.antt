-- Laws of the search for clear coins, one after another, and of a list of coins. Assumes nothing.
use mathlib.Core.Path.{◌≡◌, refl, sym, ap, ap₂, ◌∙◌}
use mathlib.Core.Bool.{Bool, true, false, cond, ◌||◌}
use mathlib.Core.List.{List}
use Prim.Native.Nat.{ℕ, ◌+◌, ◌-◌, ◌*◌, ◌/◌, ◌%◌, ◌≤◌, ◌<◌}
use native.Mathlib.Nat.{mul-le-mul_left, mul_left_comm, div-mul-le_self}
use native.Mathlib.Omega.{arith}
use borrow.Author.Tests.{leb-true}
use lib.Dec.{eqb, leb}
use lib.ListN.{length, take, drop}
use Rattle.std.specs.Bool.{then_some}
use Rattle.std.specs.Option.{is_some, unwrap_or}
use Rattle.keccak.specs.Lists.{tabulate}
use Rattle.keccak.proofs.Entries.{tabulate_at}
use Rattle.kindi.specs.declared.Params.{Params}
use Rattle.kindi.specs.Params.{WellFormed, length_of}
use Rattle.kindi.specs.Answers.{some, coins_at, coins_count, clear_places, clear_under}
use Rattle.kindi.proofs.Chains.{never, both}
use Rattle.kindi.proofs.Lists.{some_more, parts_within}
use Rattle.vectors.proofs.Amounts.{part_length}
use Rattle.noise.specs.Rooms.{MeasureRoom, Kept}
use Rattle.noise_calls.specs.Fitting.{Search, SearchRoom}

-- ---- the search

-- What is known after the first i: whether one is clear, and then the place of such.
pub record Tried (f : ℕ → Bool) (i : ℕ) (found : Bool) (place : ℕ) : Type 0 where
  pub found_is : found ≡ some (tabulate i f)
  pub at_clear : found ≡ true → (place < i) × (f place ≡ true)

pub tried_none : (f : ℕ → Bool) (place : ℕ) → Tried f 0 false place
unfolding some tabulate
tried_none f place = record { found_is = refl; at_clear = λ e. never (cc) }

-- The place of a clear one stays; else it is the last.
clear_more : (f : ℕ → Bool) (i place : ℕ) (found : Bool) → (found ≡ true → (place < i) × (f place ≡ true)) → found || f i ≡ true
    → (cond found place i < i + 1) × (f (cond found place i) ≡ true)
clear_more f i place true h e = (omega (arith, (h refl).0), (h refl).1)
clear_more f i place false h e = (omega arith, e)

pub tried_more : (f : ℕ → Bool) (i place : ℕ) {found clear : Bool} → Tried f i found place → clear ≡ f i
    → Tried f (i + 1) (found || clear) (cond found place i)
tried_more f i place {found} t e = record {
  found_is = ap₂ ◌||◌ t.found_is e ∙ sym (some_more i f);
  at_clear = λ h. clear_more f i place found t.at_clear (ap (λ (b : Bool). found || b) (sym e) ∙ h);
}

-- After all of them.
pub tried_all : (f : ℕ → Bool) (n place : ℕ) {found : Bool} → Tried f n found place → Search (tabulate n f) found place
tried_all f n place t = record {
  found_is = t.found_is;
  at_clear = λ h. let at = t.at_clear h in tabulate_at n f place false at.0 ∙ at.1;
}

-- ---- a list of coins

-- Coins number i lie within the list.
pub coins_within : (k long i : ℕ) → i < long / k → i * k + k ≤ long
coins_within k long i h = omega (arith, parts_within k h, div-mul-le_self long k)

-- They are the part that the code reads.
pub coins_part : (P : Params) (list : List ℕ) (i : ℕ)
    → take (i * P.coins + P.coins - i * P.coins) (drop (i * P.coins) list) ≡ coins_at P list i
unfolding coins_at
coins_part P list i =
    let count : i * P.coins + P.coins - i * P.coins ≡ P.coins = omega arith in
    ap (λ (n : ℕ). take n (drop (i * P.coins) list)) count

-- ---- the loop of the search

-- Which coins of the list are clear.
abbrev clear_at : Params → List ℕ → List ℕ → List ℕ → ℕ → Bool
clear_at P sk message list i = clear_under P sk (coins_at P list i) message

-- After i turns.
pub record Searching (P : Params) (sk message list : List ℕ) (i : ℕ) (found : Bool) (place : ℕ) : Type 0 where
  pub within : i ≤ length list / P.coins
  pub tried : Tried (clear_at P sk message list) i found place

pub search_starts : (P : Params) (sk message list : List ℕ) → Searching P sk message list 0 false 0
search_starts P sk message list = record { within = omega arith; tried = tried_none (clear_at P sk message list) 0 }

module _ {P : Params} {sk message list : List ℕ} {i : ℕ} {found : Bool} {place : ℕ} (so_far : Searching P sk message list i found place) where
  -- A turn more.
  pub search_goes_on : {clear : Bool} {place' : ℕ} → i < length list / P.coins
      → clear ≡ clear_under P sk (take (i * P.coins + P.coins - i * P.coins) (drop (i * P.coins) list)) message → place' ≡ cond found place i
      → Searching P sk message list (i + 1) (found || clear) place'
  search_goes_on {clear} {place'} h is-clear is-place =
      let part = ap (λ (c : List ℕ). clear_under P sk c message) (coins_part P list i) in
      record {
        within = omega arith;
        tried = rw is-place (tried_more (clear_at P sk message list) i place so_far.tried (is-clear ∙ part));
      }

  -- The next coins lie within the list.
  pub coins_there : i < length list / P.coins → i * P.coins + P.coins ≤ length list
  coins_there h = coins_within P.coins (length list) i h

  -- All turns.
  pub search_ends : length list / P.coins ≤ i → Search (clear_places P sk message list) found place
  unfolding clear_places coins_count
  search_ends h =
      let all : i ≡ length list / P.coins = omega (arith, so_far.within) in
      rw (← all) (tried_all (clear_at P sk message list) i place so_far.tried)

-- None is found, whatever place stands there.
pub search_none : {places : List Bool} {found : Bool} {place : ℕ} → found ≡ false → Search places found place → Search places false 0
search_none none tried = record { found_is = sym none ∙ tried.found_is; at_clear = λ e. never (cc) }

-- What is given: the place, where one is found.
pub search_done : {places : List Bool} (found : Bool) {place : ℕ} → Search places found place
    → Search places (is_some (then_some found place)) (unwrap_or (then_some found place) 0)
search_done true tried = tried
search_done false tried = search_none refl tried

-- There are at most 8 turns.
pub search_count : {P : Params} {sk b message list work : List ℕ} → SearchRoom P sk b message list work → length list / P.coins ≤ 8
search_count {P} {list = list} room =
    let count = length list / P.coins in
    leb-true count 8 (both (leb 1 count) (leb count 8) (both (eqb (length list % P.coins) 0) _ room.coins_whole).1).1

-- The next coins may be measured.
pub search_room : {P : Params} {sk b message list work work' : List ℕ} (at : ℕ) → SearchRoom P sk b message list work
    → at + P.coins ≤ length list → length work' ≡ length work → Kept P sk work'
    → MeasureRoom P sk b (take (at + P.coins - at) (drop at list)) message work'
search_room {P} {list = list} at room h l kept = record {
  key = room.key;
  coins_long = part_length at P.coins list h;
  message_fits = room.message_fits;
  work_long = rw l room.work_long;
  stream_kept = kept;
}

-- ---- b

-- The polynomials of a public key, in full, fit into the 3072 bytes that the calls have for them.
pub value_fits : (P : Params) → WellFormed P → length_of P P.l P.k ≤ 3072
unfolding length_of
value_fits P w =
    let part : P.n / 8 * P.k ≤ 2 * P.n = omega (arith, mul-le-mul_left (P.n / 8) w.word, w.eights) in
    let all : P.l * (P.n / 8 * P.k) ≤ P.l * (2 * P.n) = mul-le-mul_left P.l part in
    omega (arith, all, mul_left_comm P.l 2 P.n, w.vector)

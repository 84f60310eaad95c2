-- Laws of padded messages and masks: a padded message is known by its ending, and a mask that is added twice is none.
-- Assumes nothing.
use mathlib.Core.Path.{◌≡◌, refl, sym, ap, ap₂, ◌∙◌}
use mathlib.Core.Bool.{Bool, true, false, cond}
use mathlib.Core.List.{List, [], ◌∷◌, ◌++◌}
use Prim.Native.Nat.{ℕ, zero, suc, ◌+◌, ◌-◌, ◌/◌, ◌%◌, ◌≤◌, ◌<◌}
use native.Mathlib.Nat.{suc_inj, lt_of_lt_of_le}
use native.Mathlib.Omega.{arith}
use borrow.Author.Tests.{ltb-true, lt-ltb, eqb-true}
use lib.Bits.{bit_xor, differ, xor_step, xor_zero_l, xor_lt}
use lib.Dec.{eqb, ltb}
use lib.ListN.{length, take, drop, replicate, length-append, length-replicate, length-take, length-drop}
use lib.Pow.{pow_pos}
use lib.Seq.{get_or-take, get_or-drop}
use Rattle.keccak.specs.Strings.{xor_into}
use Rattle.hash.proofs.Laws.{length-shake}
use Rattle.hash.proofs.Octets.{bytes_zeros}
use Rattle.keccak.proofs.Parts.{length-xor_into}
use Rattle.bits.specs.Bits.{Below}
use Rattle.kindi.specs.declared.Params.{Params}
use Rattle.kindi.specs.Params.{padded_length, low_length, coins_stream_length}
use Rattle.kindi.specs.Streams.{mask, coins_stream}
use Rattle.kindi.specs.Encrypt.{padded, masked}
use Rattle.kindi.specs.Decrypt.{all_below, Ending, blank, marked, other, after, ending}
use Rattle.kindi.proofs.Strings.{entries_below, append_below, shake_below}
use Rattle.kindi.proofs.Chains.{never, both}

-- ---- a test of every entry

-- Where the test of every entry holds, every entry is below b.
pub all_below_below : (b : ℕ) (xs : List ℕ) → 0 < b → all_below b xs ≡ true → Below b xs
unfolding all_below
all_below_below b [] some e i = some
all_below_below b (x ∷ xs) some e zero = ltb-true x b (both (ltb x b) (all_below b xs) e).0
all_below_below b (x ∷ xs) some e (suc i) = all_below_below b xs some (both (ltb x b) (all_below b xs) e).1 i

-- And the test holds where every entry is.
pub below_all_below : (b : ℕ) (xs : List ℕ) → Below b xs → all_below b xs ≡ true
unfolding all_below
below_all_below b [] h = refl
below_all_below b (x ∷ xs) h = rw (lt-ltb x b (h 0)) (below_all_below b xs (λ i. h (suc i)))

-- ---- padded messages

-- A padded message fills its length.
pub length-padded : (P : Params) (message : List ℕ) → length message < padded_length P → length (padded P message) ≡ padded_length P
unfolding padded
length-padded P message h =
    length-append message (1 ∷ replicate (padded_length P - (length message + 1)) 0)
    ∙ simp length-replicate (omega arith)

-- It is made of bytes where the message is.
pub padded_below : (P : Params) (message : List ℕ) → Below 256 message → Below 256 (padded P message)
unfolding padded
padded_below P message h = append_below 256 message (1 ∷ replicate n 0) h mark
  where
    n : ℕ
    n = padded_length P - (length message + 1)

    mark : Below 256 (1 ∷ replicate n 0)
    mark zero = omega arith
    mark (suc i) = bytes_zeros n i

-- Zeros end blank.
ending_zeros : (n : ℕ) → ending (replicate n 0) ≡ blank
unfolding ending after
ending_zeros zero = refl
ending_zeros (suc n) = rw (ending_zeros n)

-- A message with its mark and zeros ends with that message.
ending_marked : (message : List ℕ) (n : ℕ) → ending (message ++ (1 ∷ replicate n 0)) ≡ marked message
unfolding ending after
ending_marked [] n = rw (ending_zeros n)
ending_marked (b ∷ bs) n = rw (ending_marked bs n)

-- A padded message ends with its message.
pub ending-padded : (P : Params) (message : List ℕ) → ending (padded P message) ≡ marked message
unfolding padded
ending-padded P message = ending_marked message (padded_length P - (length message + 1))

-- A byte before zeros leaves them blank only where it is 0.
blank_front : (z o : Bool) → cond z blank (cond o (marked []) other) ≡ blank → z ≡ true
blank_front true o e = refl
blank_front false true e = never (cc)
blank_front false false e = never (cc)

-- It makes the empty message only where it is 1.
marked_front : (z o : Bool) (message : List ℕ) → cond z blank (cond o (marked []) other) ≡ marked message → (o ≡ true) × (message ≡ [])
marked_front true o message e = never (cc)
marked_front false true message e = (refl, cc)
marked_front false false message e = never (cc)

-- A list with a byte in front ends blank: the byte is 0, and the rest ends blank.
after_blank : (b : ℕ) (e : Ending) → after b e ≡ blank → (b ≡ 0) × (e ≡ blank)
unfolding after
after_blank b blank e = (eqb-true b 0 (blank_front (eqb b 0) (eqb b 1) e), refl)
after_blank b (marked message) e = never (cc)
after_blank b other e = never (cc)

-- It ends with a message: the byte is the mark of the empty one, or the first of the message with which the rest ends.
after_marked : {X : Type 0} (b : ℕ) (e : Ending) (message : List ℕ) → after b e ≡ marked message
    → (e ≡ blank → b ≡ 1 → message ≡ [] → X) → ((rest : List ℕ) → e ≡ marked rest → message ≡ b ∷ rest → X) → X
unfolding after
after_marked b blank message e first more =
    let front = marked_front (eqb b 0) (eqb b 1) message e in
    first refl (eqb-true b 1 front.0) front.1
after_marked b (marked rest) message e first more = more rest refl (cc)
after_marked b other message e first more = never (cc)

-- A list that ends blank is zeros only.
blank_zeros : (bs : List ℕ) → ending bs ≡ blank → bs ≡ replicate (length bs) 0
unfolding ending
blank_zeros [] e = refl
blank_zeros (b ∷ bs) e =
    let front = after_blank b (ending bs) e in
    ap₂ (λ (x : ℕ) (l : List ℕ). x ∷ l) front.0 (blank_zeros bs front.1)

-- A list that ends with a message is that message with its mark and zeros.
marked_zeros : (bs message : List ℕ) → ending bs ≡ marked message → (n : ℕ) × (bs ≡ message ++ (1 ∷ replicate n 0))
unfolding ending
marked_zeros [] message e = never (cc)
marked_zeros (b ∷ bs) message e = after_marked b (ending bs) message e
    (λ zeros one none. (length bs, rw none (ap₂ (λ (x : ℕ) (l : List ℕ). x ∷ l) one (blank_zeros bs zeros))))
    (λ rest later is.
    let ih = marked_zeros bs rest later in
    (ih.0, rw is (ap (λ (l : List ℕ). b ∷ l) ih.1)))

-- So a list as long as a padded message that ends with a message is that message padded, and the message fits.
pub marked_padded : (P : Params) (bs message : List ℕ) → length bs ≡ padded_length P → ending bs ≡ marked message
    → (length message < padded_length P) × (bs ≡ padded P message)
unfolding padded
marked_padded P bs message long e =
    let is = marked_zeros bs message e in
    let whole : length message + suc is.0 ≡ padded_length P =
    rw (← length-replicate {A = ℕ} is.0 0) (sym (ap length is.1 ∙ length-append message (1 ∷ replicate is.0 0)) ∙ long)
    in
    let rest : is.0 ≡ padded_length P - (length message + 1) = omega arith in
    (omega arith, is.1 ∙ ap (λ (n : ℕ). message ++ (1 ∷ replicate n 0)) rest)

-- ---- masks

-- Of bits: one added twice is none.
differ_twice : (a b : ℕ) → a < 2 → b < 2 → differ a (differ a b) ≡ b
differ_twice zero b h k = refl
differ_twice (suc zero) zero h k = refl
differ_twice (suc zero) (suc zero) h k = refl
differ_twice (suc zero) (suc (suc b)) h k = absurd (omega arith)
differ_twice (suc (suc a)) b h k = absurd (omega arith)

-- Their sum is a bit.
differ_lt : (a b : ℕ) → a < 2 → b < 2 → differ a b < 2
differ_lt zero b h k = k
differ_lt (suc zero) zero h k = h
differ_lt (suc zero) (suc b) h k = omega arith
differ_lt (suc (suc a)) b h k = absurd (omega arith)

-- The same of numbers up to n, from the bits above the lowest.
xor_twice_upto : (n a b : ℕ) → a ≤ n → bit_xor a (bit_xor a b) ≡ b
xor_twice_upto zero a b h =
    let none : a ≡ 0 = omega arith in
    rw none (xor_zero_l (bit_xor 0 b) ∙ xor_zero_l b)
xor_twice_upto (suc n) a b h =
    let half : bit_xor (a / 2) (bit_xor (a / 2) (b / 2)) ≡ b / 2 = xor_twice_upto n (a / 2) (b / 2) (omega arith) in
    let bit : differ (a % 2) (differ (a % 2) (b % 2)) ≡ b % 2 = differ_twice (a % 2) (b % 2) (omega arith) (omega arith) in
    let less : differ (a % 2) (b % 2) < 2 = differ_lt (a % 2) (b % 2) (omega arith) (omega arith) in
    let high : bit_xor a b / 2 ≡ bit_xor (a / 2) (b / 2) = omega (arith, xor_step a b) in
    let low : bit_xor a b % 2 ≡ differ (a % 2) (b % 2) = omega (arith, xor_step a b) in
    xor_step a (bit_xor a b) ∙ rw (high, low, half, bit) (omega arith)

-- The same bits added twice are none.
pub xor_twice : (a b : ℕ) → bit_xor a (bit_xor a b) ≡ b
xor_twice a b = xor_twice_upto a a b (omega arith)

-- So a mask added twice is none.
pub mask_twice : (s p : List ℕ) → length s ≡ length p → xor_into s (xor_into s p) ≡ p
unfolding xor_into
mask_twice [] [] e = refl
mask_twice [] (b ∷ bs) e = absurd (omega arith)
mask_twice (s ∷ ss) [] e = absurd (omega arith)
mask_twice (s ∷ ss) (b ∷ bs) e = ap₂ (λ (x : ℕ) (l : List ℕ). x ∷ l) (xor_twice s b) (mask_twice ss bs (suc_inj e))

-- Bytes added to bytes are bytes.
pub xor_into_below : (s p : List ℕ) → Below 256 s → Below 256 p → Below 256 (xor_into s p)
unfolding xor_into
xor_into_below [] p h k i = h i
xor_into_below (s ∷ ss) [] h k i = h i
xor_into_below (s ∷ ss) (b ∷ bs) h k zero = xor_lt 8 s b (h zero) (k zero)
xor_into_below (s ∷ ss) (b ∷ bs) h k (suc i) = xor_into_below ss bs (λ j. h (suc j)) (λ j. k (suc j)) i

-- A part of a list has entries below b where the list has.
pub part_below : (b m n : ℕ) (xs : List ℕ) → 0 < b → Below b xs → Below b (take n (drop m xs))
part_below b m n xs some h =
    entries_below b (take n (drop m xs)) some
    (λ i k. rw (get_or-take n (drop m xs) i 0 (lt_of_lt_of_le k (simp length-take (omega arith))), get_or-drop m xs i 0) (h (m + i)))

-- The mask is as long as a padded message.
pub length-mask : (P : Params) (coins : List ℕ) → length (mask P coins) ≡ padded_length P
unfolding mask coins_stream
length-mask P coins = simp (length-take, length-drop, length-shake) (omega arith)

-- It is made of bytes.
pub mask_below : (P : Params) (coins : List ℕ) → Below 256 (mask P coins)
unfolding mask coins_stream
mask_below P coins =
    part_below 256 (low_length P) (padded_length P) (coins_stream P coins) (pow_pos 8) (shake_below P.rate coins (coins_stream_length P))

-- A masked message has the same length.
pub length-masked : (P : Params) (coins message : List ℕ) → length (masked P coins message) ≡ padded_length P
unfolding masked
length-masked P coins message = length-xor_into (mask P coins) (padded P message) ∙ length-mask P coins

-- It is made of bytes where the message is.
pub masked_below : (P : Params) (coins message : List ℕ) → Below 256 message → Below 256 (masked P coins message)
unfolding masked
masked_below P coins message h = xor_into_below (mask P coins) (padded P message) (mask_below P coins) (padded_below P message h)

-- The mask, added to it, gives the padded message again.
pub masked_twice : (P : Params) (coins message : List ℕ) → length message < padded_length P
    → xor_into (mask P coins) (masked P coins message) ≡ padded P message
unfolding masked
masked_twice P coins message h =
    mask_twice (mask P coins) (padded P message) (length-mask P coins ∙ sym (length-padded P message h))

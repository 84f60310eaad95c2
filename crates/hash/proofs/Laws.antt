-- What the layers above cite: the sponge gives SHAKE of what it took, in pieces as at once, and the laws of SHAKE's
-- output. Assumes nothing.
use mathlib.Core.Path.{◌≡◌, sym, ap, ◌∙◌, subst}
use mathlib.Core.List.{List, ◌++◌, append_assoc}
use Prim.Native.Nat.{ℕ, ◌+◌, ◌/◌, ◌%◌, ◌≤◌, ◌<◌}
use native.Mathlib.Nat.{zero-add}
use native.Mathlib.Omega.{arith}
use lib.ListN.{length, drop, replicate}
use lib.Seq.{ext_get_or, drop_at}
use Rattle.hash.proofs.Blocks.{start, finished_is, output_byte, squeezed_at}
use Rattle.keccak.proofs.Entries.{tabulate_at, tabulate-add, length-tabulate}
use Rattle.hash.proofs.Octets.{bytes_zeros, bytes_absorb_blocks, bytes_permutes}
use Rattle.hash.proofs.Steps.{sound_fresh, sound_absorbed, sound_finished, squeezed-ready, squeezed-append, length-squeezed}
use Rattle.keccak.specs.Lists.{tabulate}
use Rattle.hash.specs.Shake.{absorb_all, shake_byte, shake_from, shake}
use Rattle.hash.specs.Stream.{Sound, fresh, absorbed, finished, squeezed, advanced}
use Rattle.hash.specs.declared.sponge.Sponge.{Sponge}

-- What a sponge gives after a message is SHAKE of the message.
pub squeezed-shake : (r : ℕ) (m : List ℕ) (n : ℕ) → 0 < r → r ≤ 200 → squeezed (finished (absorbed (fresh r) m)) n ≡ shake r m n
unfolding shake shake_byte
squeezed-shake r m n pos fits =
    let s = finished (absorbed (fresh r) m) in
    let sound : Sound s = sound_finished _ (sound_absorbed _ m (sound_fresh r pos fits)) in
    let from_start : squeezed s n ≡ squeezed (start r (absorb_all r m)) n =
    squeezed-ready s n sound ∙ ap (λ (t : Sponge). squeezed t n) (finished_is r m pos fits)
    in
    from_start
    ∙ ext_get_or 0 (squeezed (start r (absorb_all r m)) n) (tabulate n (output_byte r (absorb_all r m)))
    (length-squeezed _ n ∙ sym (length-tabulate n _))
    (λ i h.
    let below : i < n = subst (λ (x : ℕ). i < x) (length-squeezed _ n) h in
    squeezed_at r pos fits n i 0 (absorb_all r m) (omega arith) below ∙ ap (output_byte r (absorb_all r m)) (zero-add i)
    ∙ sym (tabulate_at n (output_byte r (absorb_all r m)) i 0 below))

-- ---- SHAKE's output

pub length-shake : (r : ℕ) (m : List ℕ) (n : ℕ) → length (shake r m n) ≡ n
unfolding shake
length-shake r m n = length-tabulate n (shake_byte r m)

-- An output is its first i bytes, then those from place i on.
pub shake_split : (r : ℕ) (m : List ℕ) (i n : ℕ) → shake r m (i + n) ≡ shake r m i ++ shake_from r m i n
unfolding shake shake_from
shake_split r m i n = tabulate-add i n (shake_byte r m)

-- From a place on, the output is the whole without its first bytes.
pub shake-from-drop : (r : ℕ) (m : List ℕ) (i n : ℕ) → drop i (shake r m (i + n)) ≡ shake_from r m i n
shake-from-drop r m i n =
    ap (drop i) (shake_split r m i n) ∙ drop_at (shake r m i) (shake_from r m i n) i (length-shake r m i)

-- From place 0 on, it is the whole.
pub shake-from-start : (r : ℕ) (m : List ℕ) (n : ℕ) → shake_from r m 0 n ≡ shake r m n
shake-from-start r m n = sym (shake-from-drop r m 0 n) ∙ ap (shake r m) (zero-add n)

-- From place i on, then from place i + n on, is from place i on at once.
pub shake-from-add : (r : ℕ) (m : List ℕ) (i n k : ℕ) → shake_from r m i (n + k) ≡ shake_from r m i n ++ shake_from r m (i + n) k
shake-from-add r m i n k =
    let first = shake r m i in
    let both = shake_from r m i n ++ shake_from r m (i + n) k in
    let sum : i + (n + k) ≡ i + n + k = omega arith in
    let whole : shake r m (i + (n + k)) ≡ first ++ both =
    ap (shake r m) sum ∙ shake_split r m (i + n) k ∙ ap (λ (l : List ℕ). l ++ shake_from r m (i + n) k) (shake_split r m i n)
    ∙ append_assoc first (shake_from r m i n) (shake_from r m (i + n) k)
    in
    sym (shake-from-drop r m i (n + k)) ∙ ap (drop i) whole ∙ drop_at first both i (length-shake r m i)

-- From any place on, the output has as many bytes as are asked for.
pub length-shake-from : (r : ℕ) (m : List ℕ) (i n : ℕ) → length (shake_from r m i n) ≡ n
unfolding shake_from
length-shake-from r m i n = length-tabulate n _

-- A sponge that has given i bytes goes on with those from place i.
pub squeezed-from : (r : ℕ) (m : List ℕ) (i n : ℕ) → 0 < r → r ≤ 200
    → squeezed (advanced (finished (absorbed (fresh r) m)) i) n ≡ shake_from r m i n
squeezed-from r m i n pos fits =
    let s = finished (absorbed (fresh r) m) in
    sym (drop_at (squeezed s i) (squeezed (advanced s i) n) i (length-squeezed s i)) ∙ ap (drop i) (sym (squeezed-append s i n))
    ∙ ap (drop i) (squeezed-shake r m (i + n) pos fits) ∙ shake-from-drop r m i n

-- Each byte of the output is below 256.
pub shake_byte_below : (r : ℕ) (m : List ℕ) (j : ℕ) → shake_byte r m j < 256
unfolding shake_byte absorb_all
shake_byte_below r m j =
    bytes_permutes (j / r) (absorb_all r m) (bytes_absorb_blocks r _ (replicate 200 0) _ (bytes_zeros 200)) (j % r)

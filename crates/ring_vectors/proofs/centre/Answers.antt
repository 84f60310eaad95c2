-- `ring_vectors::centre` meets its contract: each value is below 1,024 before it is centred.
-- Assumes nothing.
use Rattle.std.proofs.Common.{◌≡◌, ℕ, ◌≤◌, List, lt_of_lt_of_le, arith, pow_mono, rules}
use Rattle.bits.proofs.Digits.{low_bits_below}
use Rattle.ring.proofs.Sizes.{largest-centred}
use Rattle.bits.specs.Bits.{Below, low_bits}
use Rattle.ring_vectors.proofs.centre.Goals as goal

-- What is taken modulo 2^10 or less is below 1,024.
low : (w : ℕ) (vs : List ℕ) → w ≤ 10 → Below 1024 (low_bits w vs)
low w vs h i = lt_of_lt_of_le (low_bits_below w vs i) (pow_mono h)

pub centre-requires : goal.centre-requires
centre-requires c =
    let a = c.args in
    let is : c.reduce.new.xs ≡ low_bits a.w a.values.now = c.reduce.ensures in
    ((λ i. rw is (omega (arith, low a.w a.values.now (omega arith) i))), search rules, search rules)

pub returns : goal.returns
returns c =
    let a = c.args in
    let values = c.reduce.new.xs in
    let is : values ≡ low_bits a.w a.values.now = c.reduce.ensures in
    let below : Below 1024 values = λ i. rw is (low a.w a.values.now (omega arith) i) in
    rw c.centre.ensures (largest-centred a.p 1024 values (omega arith) (λ i. omega (arith, below i)))

-- Centred values of ten bits are so small that their products fit. Assumes nothing.
use mathlib.Core.Path.{◌≡◌, sym, ap, ◌∙◌}
use mathlib.Core.List.{List}
use Prim.Native.Nat.{ℕ, ◌*◌, ◌^◌, ◌≤◌}
use native.Mathlib.Nat.{mul-le-mul}
use native.Mathlib.Omega.{arith}
use lib.IntN.{ℤ, pos}
use lib.ListN.{length, replicate, length-replicate}
use lib.Pow.{pow_mono}
use Rattle.bits.proofs.Digits.{unpack_below, length-unpack}
use Rattle.keccak.proofs.Entries.{length-tabulate}
use Rattle.ring.proofs.Sizes.{largest-centred, largest_zeros}
use Rattle.bits.specs.Bits.{unpack}
use Rattle.ring.specs.Coefficients.{Summable}
use Rattle.ring.specs.Integers.{largest}
use Rattle.ring_calls.specs.Signed.{centred_string, Small}

string_size : (w p n : ℕ) (bytes : List ℕ) → w ≤ 10 → p ≤ 1024 → largest (centred_string w p n bytes) ≤ 1024
string_size w p n bytes narrow near =
    let few : 2 ^ w ≤ 2 ^ 10 = pow_mono narrow in
    largest-centred p 1024 (unpack w n bytes) near (λ i. omega (arith, unpack_below w n bytes i))

string_long : (w p n : ℕ) (bytes : List ℕ) → length (centred_string w p n bytes) ≡ n
string_long w p n bytes = length-tabulate (length (unpack w n bytes)) _ ∙ length-unpack w n bytes

-- A string of so many values, where they are counted another way.
pub centred_at : (w p n : ℕ) (bytes : List ℕ) {m : ℕ} {xs : List ℤ} → xs ≡ centred_string w p m bytes → m ≡ n
    → xs ≡ centred_string w p n bytes
centred_at w p n bytes e h = e ∙ ap (λ (k : ℕ). centred_string w p k bytes) h

-- The product of two strings may be added to nothing.
pub summable : (w p n : ℕ) (a b : List ℕ) → Small w p n a b
    → Summable (replicate n (pos 0)) (centred_string w p n a) (centred_string w p n b)
summable w p n a b s =
    let zeros : length (replicate n (pos 0)) ≡ n = length-replicate n (pos 0) in
    let x = largest (centred_string w p n a) in
    let y = largest (centred_string w p n b) in
    let hx : x ≤ 1024 = string_size w p n a s.narrow s.near in
    let hy : y ≤ 1024 = string_size w p n b s.narrow s.near in
    let most : n * (x * y) ≤ 512 * (1024 * 1024) = mul-le-mul s.short (mul-le-mul hx hy) in
    record {
      first = string_long w p n a ∙ sym zeros;
      second = string_long w p n b ∙ sym zeros;
      short = omega (arith, s.short);
      negatable = omega arith;
      small = rw (zeros, largest_zeros n) (omega arith);
    }

-- SHAKE128 and SHAKE256 as FIPS 202, sections 4, 5.1 and 6.2, define them, for messages and outputs of whole bytes. A string is
-- a list of bytes, and bit i of byte j is the standard's bit 8 j + i (section B.1). SHAKE128 has a capacity of 256 bits and
-- SHAKE256 one of 512, so of the string's 200 bytes their rates are 168 and 136. Rests on `Strings` of `keccak`.
use Rattle.std.specs.Prelude.{List, [], ◌∷◌, ◌++◌, ℕ, zero, suc, ◌+◌, ◌-◌, ◌*◌, ◌/◌, ◌%◌, length, get_or, take, drop, replicate}
use Rattle.keccak.specs.Lists.{tabulate, value, digits}
use Rattle.keccak.specs.Strings.{permute, xor_into}

-- Algorithm 9: the bits of pad10*1(x, m), where j is (− m − 2) mod x.
unfoldable pub pad101 : ℕ → ℕ → List ℕ
pad101 x m = let j = (x - (m + 2) % x) % x in 1 ∷ (replicate j 0 ++ (1 ∷ []))

-- Section B.1: the bytes of a string of bits.
unfoldable pub bytes_of : List ℕ → List ℕ
bytes_of bits = digits 8 (length bits / 8) (value 1 bits)

-- Section 6.2: what follows a message of n bytes at a rate of r bytes: 1111, then pad10*1 up to a multiple of the rate.
unfoldable pub padding : ℕ → ℕ → List ℕ
padding r n = bytes_of (1 ∷ 1 ∷ 1 ∷ 1 ∷ pad101 (8 * r) (8 * n + 4))

-- Algorithm 8, step 6: the string s after the first n blocks of p, each of r bytes.
unfoldable pub absorb_blocks : ℕ → ℕ → List ℕ → List ℕ → List ℕ
absorb_blocks r zero s p = s
absorb_blocks r (suc n) s p = absorb_blocks r n (permute (xor_into s (take r p))) (drop r p)

-- Algorithm 8, steps 1 to 6: the string that has absorbed the message m with its padding.
unfoldable pub absorb_all : ℕ → List ℕ → List ℕ
absorb_all r m = let p = m ++ padding r (length m) in absorb_blocks r (length p / r) (replicate 200 0) p

-- The string after n more permutations.
unfoldable pub permutes : ℕ → List ℕ → List ℕ
permutes zero s = s
permutes (suc n) s = permute (permutes n s)

-- Algorithm 8, steps 7 to 10: byte j of the output, which stands after j / r more permutations at j mod r.
unfoldable pub shake_byte : ℕ → List ℕ → ℕ → ℕ
shake_byte r m j = get_or (permutes (j / r) (absorb_all r m)) (j % r) 0

-- The n bytes of the output from place i on.
unfoldable pub shake_from : ℕ → List ℕ → ℕ → ℕ → List ℕ
shake_from r m i n = tabulate n (λ j. shake_byte r m (i + j))

-- The first n bytes of SHAKE at a rate of r bytes.
unfoldable pub shake : ℕ → List ℕ → ℕ → List ℕ
shake r m n = tabulate n (shake_byte r m)

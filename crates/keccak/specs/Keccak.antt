-- Keccak-f[1600] as FIPS 202, section 3, defines it, at lanes of 64 bits. A lane is the number whose bit z is the
-- standard's A[x, y, z]; a state is five rows (y) of five lanes (x). Rests on nothing.
use Rattle.std.specs.Prelude.{List, [], ◌∷◌, ℕ, zero, suc, ◌+◌, ◌-◌, ◌*◌, ◌/◌, ◌%◌, ◌^◌, get_or, set}
use Rattle.std.specs.Int.Bits.{bit_xor, bit_and}

-- The five values of f at 0 to 4.
abbrev pub five : {A : Type 0} → (ℕ → A) → List A
five f = f 0 ∷ f 1 ∷ f 2 ∷ f 3 ∷ f 4 ∷ []

-- The state whose lane (x, y) is f x y.
abbrev pub state : (ℕ → ℕ → ℕ) → List (List ℕ)
state f = five (λ y. five (λ x. f x y))

-- Lane (x, y) of a state.
abbrev pub lane : List (List ℕ) → ℕ → ℕ → ℕ
lane a x y = get_or (get_or a y []) x 0

-- The state with v in lane (x, y).
abbrev pub put : List (List ℕ) → ℕ → ℕ → ℕ → List (List ℕ)
put a x y v = set a y (set (get_or a y []) x v)

-- A lane with its bits moved up by n places, those that fall off the top coming in at the bottom.
abbrev pub rotl : ℕ → ℕ → ℕ
rotl n v = (v * 2 ^ n) % 2 ^ 64 + v / 2 ^ (64 - n)

-- A lane with every bit turned over.
abbrev pub complement : ℕ → ℕ
complement v = (2 ^ 64 - 1) - v

-- Two rows added lane by lane, modulo 2.
abbrev pub xor_row : List ℕ → List ℕ → List ℕ
xor_row p q = five (λ x. bit_xor (get_or p x 0) (get_or q x 0))

-- Algorithm 1, step 1: the parity C[x] of column x.
abbrev pub column : List (List ℕ) → ℕ → ℕ
column a x = bit_xor (bit_xor (bit_xor (bit_xor (lane a x 0) (lane a x 1)) (lane a x 2)) (lane a x 3)) (lane a x 4)

-- Algorithm 1, step 2: D[x], from the five parities.
abbrev pub effect : List ℕ → ℕ → ℕ
effect c x = bit_xor (get_or c ((x + 4) % 5) 0) (rotl 1 (get_or c ((x + 1) % 5) 0))

-- Algorithm 1: theta.
unfoldable pub theta : List (List ℕ) → List (List ℕ)
theta a = state (λ x y. bit_xor (lane a x y) (effect (five (column a)) x))

-- Algorithm 2, steps 2 and 3b: the lane (x, y) that rho reaches after t steps, from (1, 0).
unfoldable pub walk : ℕ → ℕ × ℕ
walk zero = (1, 0)
walk (suc t) = let at = walk t in (at.1, (2 * at.0 + 3 * at.1) % 5)

-- Algorithm 2, step 3a: the offsets that the first t steps give to the lanes that they reach; the others are 0.
unfoldable pub walked : ℕ → List (List ℕ)
walked zero = state (λ x y. 0)
walked (suc t) =
    let at = walk t in
    put (walked t) at.0 at.1 ((t + 1) * (t + 2) / 2 % 64)

-- The offset of rho for lane (x, y).
unfoldable pub offset : ℕ → ℕ → ℕ
offset x y = lane (walked 24) x y

-- Algorithm 2: rho.
unfoldable pub rho : List (List ℕ) → List (List ℕ)
rho a = state (λ x y. rotl (offset x y) (lane a x y))

-- Algorithm 3: pi.
abbrev pub pi : List (List ℕ) → List (List ℕ)
pi a = state (λ x y. lane a ((x + 3 * y) % 5) x)

-- Algorithm 4, on one row.
abbrev pub chi_row : List ℕ → List ℕ
chi_row p = five (λ x. bit_xor (get_or p x 0) (bit_and (complement (get_or p ((x + 1) % 5) 0)) (get_or p ((x + 2) % 5) 0)))

-- Algorithm 4: chi.
unfoldable pub chi : List (List ℕ) → List (List ℕ)
chi a = five (λ y. chi_row (get_or a y []))

-- Algorithm 5, steps 2 and 3: the register R after t steps, as the number whose bit i is R[i]. A step moves each bit
-- up by one and adds the bit that leaves at the top to bits 0, 4, 5 and 6, which are 113.
unfoldable pub register : ℕ → ℕ
register zero = 1
register (suc t) = let r = register t in bit_xor (2 * r % 2 ^ 8) (113 * (r / 2 ^ 7))

-- Algorithm 5: rc(t).
unfoldable pub rc : ℕ → ℕ
rc t = register (t % 255) % 2

-- Algorithm 6, steps 2 and 3: the round constant of round i, whose bit 2^j − 1 is rc(j + 7 i).
unfoldable pub round_constant : ℕ → ℕ
round_constant i =
    rc (7 * i) + rc (7 * i + 1) * 2 ^ 1 + rc (7 * i + 2) * 2 ^ 3 + rc (7 * i + 3) * 2 ^ 7 + rc (7 * i + 4) * 2 ^ 15
    + rc (7 * i + 5) * 2 ^ 31 + rc (7 * i + 6) * 2 ^ 63

-- Algorithm 6: iota, with the round constant c.
abbrev pub iota : ℕ → List (List ℕ) → List (List ℕ)
iota c a = put a 0 0 (bit_xor (lane a 0 0) c)

-- Section 3.3: a round, with the round constant c.
unfoldable pub round : ℕ → List (List ℕ) → List (List ℕ)
round c a = iota c (chi (pi (rho (theta a))))

-- The first n rounds.
unfoldable pub rounds : ℕ → List (List ℕ) → List (List ℕ)
rounds zero a = a
rounds (suc n) a = round (round_constant n) (rounds n a)

-- Keccak-f[1600]: the 24 rounds.
unfoldable pub keccak_f : List (List ℕ) → List (List ℕ)
keccak_f a = rounds 24 a

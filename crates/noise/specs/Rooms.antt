-- What the functions of `noise` ask of their slices. Rests on the definitions of `kindi`.
use Rattle.std.specs.Prelude.{◌≡◌, List, ℕ, ◌+◌, ◌-◌, ◌^◌, ◌≤◌, ◌<◌, ℤ, length, take}
use Rattle.hash.specs.Shake.{shake}
use Rattle.bits.specs.Bits.{Below, pack}
use Rattle.ring.specs.Integers.{largest}
use Rattle.ring.specs.Poly.{residues}
use Rattle.kindi.specs.declared.Params.{Params}
use Rattle.kindi.specs.Params.{WellFormed, modulus, length_of, stored_length, secret_length, padded_length, noise_work}
use Rattle.kindi.specs.Params.{secrets_length, low_length, high_length, rest_length, coins_stream_length}
use Rattle.kindi.specs.Keys.{joined, public, public_part, matrix_seed, secret_seed}

-- b in full, k bits a coefficient.
unfoldable pub value_of : Params → List ℕ → List ℕ
value_of P sk =
    pack P.k (joined P.l (λ i. residues (modulus P) P.n (public P (matrix_seed P (public_part P sk)) (secret_seed P sk) i)))

-- The work area begins with the stream of γ.
abbrev pub Kept : Params → List ℕ → List ℕ → Type 0
Kept P sk work = take (secrets_length P) work ≡ shake P.rate (secret_seed P sk) (secrets_length P)

-- The arguments of `public_value`.
pub record ValueRoom (P : Params) (sk b work : List ℕ) : Type 0 where
  pub well : WellFormed P
  pub secret_long : length sk ≡ secret_length P
  pub value_long : length b ≡ length_of P P.l P.k
  pub work_long : noise_work P ≤ length work

-- The arguments of `agree`: a secret key, and its b in full.
pub record KeyRoom (P : Params) (sk b : List ℕ) : Type 0 where
  pub well : WellFormed P
  pub secret_long : length sk ≡ secret_length P
  pub value_is : b ≡ value_of P sk

-- The arguments of `measure`.
pub record MeasureRoom (P : Params) (sk b coins message work : List ℕ) : Type 0 where
  pub key : KeyRoom P sk b
  pub coins_long : length coins ≡ P.coins
  pub message_fits : length message < padded_length P
  pub work_long : noise_work P ≤ length work
  pub stream_kept : Kept P sk work

-- b in full, stored polynomials, and room for the values and for the bytes of a polynomial.
pub record AgreementRoom (P : Params) (b stored : List ℕ) (values bytes : ℕ) : Type 0 where
  pub well : WellFormed P
  pub value_long : length b ≡ length_of P P.l P.k
  pub stored_long : length stored ≡ stored_length P
  pub values_are : values ≡ P.n
  pub bytes_are : bytes ≡ length_of P 1 (P.k - P.t)

-- A string with polynomial m of w bits a coefficient, and room for a polynomial.
pub record StringRoom (P : Params) (w : ℕ) (bytes : List ℕ) (m room : ℕ) : Type 0 where
  pub well : WellFormed P
  pub narrow : w ≤ 16
  pub few : m < 64
  pub there : length_of P m w + length_of P 1 w ≤ length bytes
  pub room_is : room ≡ P.n

-- Coins, a string that begins with h, and room for a polynomial.
pub record FirstRoom (P : Params) (coins high : List ℕ) (room : ℕ) : Type 0 where
  pub well : WellFormed P
  pub coins_long : length coins ≡ P.coins
  pub high_there : high_length P ≤ length high
  pub room_is : room ≡ P.n

-- The same with a string that begins with s_2 to s_ℓ, and the number of a polynomial.
pub record EphemeralRoom (P : Params) (coins high rest : List ℕ) (i room : ℕ) : Type 0 where
  pub first : FirstRoom P coins high room
  pub rest_there : rest_length P ≤ length rest
  pub turn : i < P.l

-- A string that begins with w, the stream of γ, b in full, the number of a polynomial, and room for it.
pub record KeyNoiseRoom (P : Params) (stream secrets b : List ℕ) (i room : ℕ) : Type 0 where
  pub well : WellFormed P
  pub low_there : low_length P ≤ length stream
  pub secrets_long : length secrets ≡ secrets_length P
  pub value_long : length b ≡ length_of P P.l P.k
  pub turn : i < P.l
  pub room_is : room ≡ P.n

-- Values of w, of r' and of the low bits of b at each coefficient, and room for a polynomial.
pub record CombineRoom (P : Params) (w r low : List ℕ) (room : ℕ) : Type 0 where
  pub well : WellFormed P
  pub first : length w ≡ room
  pub second : length r ≡ room
  pub third : length low ≡ room
  pub first_small : Below 4096 w
  pub second_small : Below 4096 r
  pub third_small : Below 4096 low

-- Two factors and a sum of n coefficients, the sum so small that ℓ products may be added.
pub record SumRoom (P : Params) (x s acc : List ℤ) : Type 0 where
  pub well : WellFormed P
  pub first : length x ≡ P.n
  pub second : length s ≡ P.n
  pub sum : length acc ≡ P.n
  pub small : largest acc ≤ 2 ^ 30

-- The masked message and the stream of γ.
pub record ErrorsRoom (P : Params) (masked secrets : List ℕ) : Type 0 where
  pub masked_long : length masked ≡ padded_length P
  pub secrets_long : length secrets ≡ secrets_length P

-- b in full, coins, the stream of γ, and strings that begin with w, with h and with s_2.
pub record KeysRoom (P : Params) (b coins secrets stream high rest : List ℕ) : Type 0 where
  pub value_long : length b ≡ length_of P P.l P.k
  pub coins_long : length coins ≡ P.coins
  pub secrets_long : length secrets ≡ secrets_length P
  pub low_there : low_length P ≤ length stream
  pub high_there : high_length P ≤ length high
  pub rest_there : rest_length P ≤ length rest

-- b in full, coins, and both streams.
pub record NoiseRoom (P : Params) (b coins secrets stream : List ℕ) : Type 0 where
  pub well : WellFormed P
  pub value_long : length b ≡ length_of P P.l P.k
  pub coins_long : length coins ≡ P.coins
  pub secrets_long : length secrets ≡ secrets_length P
  pub stream_long : length stream ≡ coins_stream_length P

-- The same with the streams one after the other.
pub record StreamsRoom (P : Params) (b coins streams : List ℕ) : Type 0 where
  pub well : WellFormed P
  pub value_long : length b ≡ length_of P P.l P.k
  pub coins_long : length coins ≡ P.coins
  pub streams_long : length streams ≡ secrets_length P + coins_stream_length P

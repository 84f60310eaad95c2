-- Bits and streams (01, "Bits and streams"): what μ, γ and the coins give, each from a single run of SHAKE. Polynomials and
-- coefficients count from 0. Rests on Params, on hash's SHAKE and on the ring's bit strings.
use Rattle.std.specs.Prelude.{List, ℕ, zero, suc, ◌+◌, ◌-◌, ◌*◌, ◌/◌, ◌%◌, ◌^◌, take, drop}
use Rattle.keccak.specs.Lists.{value}
use Rattle.hash.specs.Shake.{shake, shake_from}
use Rattle.bits.specs.Bits.{unpack}
use Rattle.ring.specs.Integers.{centred}
use Rattle.ring.specs.Poly.{Poly, of_nats}
use Rattle.kindi.specs.declared.Params.{Params}
use Rattle.kindi.specs.Params.{width, high_width, length_of, low_length, padded_length, high_length, polynomial_length, secrets_length, coins_stream_length}

-- Coefficient x of polynomial m in a string of polynomials of n coefficients of w bits each.
unfoldable pub coefficient : ℕ → ℕ → List ℕ → ℕ → ℕ → ℕ
coefficient w n bytes m x = value 8 bytes / 2 ^ (w * (m * n + x)) % 2 ^ w

-- The same less p, for the small coefficients.
abbrev pub small_in : Params → List ℕ → ℕ → Poly
small_in P bytes m x = centred P.p (coefficient (width P) P.n bytes m x)

-- From μ: the coefficients of polynomial number m of its stream, k bits each.
unfoldable pub matrix_list : Params → List ℕ → ℕ → List ℕ
matrix_list P μ m = unpack P.k P.n (shake_from P.rate μ (length_of P m P.k) (polynomial_length P))

-- Polynomial (i, j) of the matrix A, row by row. The law `matrix_whole`: its coefficients are those of polynomial i·ℓ + j of the
-- whole stream.
unfoldable pub matrix : Params → List ℕ → ℕ → ℕ → Poly
matrix P μ i j = of_nats (matrix_list P μ (i * P.l + j))

-- From γ: r_1 to r_ℓ, then r'_1 to r'_ℓ, each value less p.
unfoldable pub key_secret : Params → List ℕ → ℕ → Poly
key_secret P γ = small_in P (shake P.rate γ (secrets_length P))

-- The secret r and the errors r' of a key.
abbrev pub secret : Params → List ℕ → ℕ → Poly
secret P γ i = key_secret P γ i

abbrev pub key_error : Params → List ℕ → ℕ → Poly
key_error P γ i = key_secret P γ (P.l + i)

-- The stream from the coins.
unfoldable pub coins_stream : Params → List ℕ → List ℕ
coins_stream P coins = shake P.rate coins (coins_stream_length P)

-- First w_1 to w_ℓ, t bits, less 2^(t−1).
abbrev pub low_in : Params → List ℕ → ℕ → Poly
low_in P bytes i x = centred (2 ^ (P.t - 1)) (coefficient P.t P.n bytes i x)

unfoldable pub low_part : Params → List ℕ → ℕ → Poly
low_part P coins = low_in P (coins_stream P coins)

-- Then the mask, as long as a padded message.
unfoldable pub mask : Params → List ℕ → List ℕ
mask P coins = take (padded_length P) (drop (low_length P) (coins_stream P coins))

-- Then the high part h, log p bits: coefficient x of s_1 is bit x of the coins plus twice h at x, less p.
abbrev pub first_in : Params → List ℕ → List ℕ → Poly
first_in P coins bytes x = centred P.p (coefficient 1 P.n coins 0 x + 2 * coefficient (high_width P) P.n bytes 0 x)

-- Then s_2 to s_ℓ, small coefficients: with s_1 they are the ephemeral secrets.
unfoldable pub ephemeral_by : Params → List ℕ → List ℕ → List ℕ → ℕ → Poly
ephemeral_by P coins high rest zero = first_in P coins high
ephemeral_by P coins high rest (suc i) = small_in P rest i

unfoldable pub ephemeral : Params → List ℕ → ℕ → Poly
ephemeral P coins =
    ephemeral_by P coins (drop (low_length P + padded_length P) (coins_stream P coins))
    (drop (low_length P + (padded_length P + high_length P)) (coins_stream P coins))

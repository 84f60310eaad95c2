-- The parameter sets (01, "Parameter sets"): one record, and all that follows from it. Rests on the struct `Params` of src/.
use Rattle.std.specs.Prelude.{◌≡◌, Bool, cond, ◌&&◌, ℕ, ◌+◌, ◌-◌, ◌*◌, ◌/◌, ◌^◌, ◌≤◌, ◌<◌, max, eqb, leb}
use Rattle.std.specs.Int.Count.{count_trailing_zeros}
use Rattle.kindi.specs.declared.Params.{Params}

-- The modulus q, and g.
abbrev pub modulus : Params → ℕ
modulus P = 2 ^ P.k

abbrev pub half : Params → ℕ
half P = modulus P / 2

-- The width in bits of a small coefficient, 0 to 2p − 1, and of one without its lowest bit.
abbrev pub width : Params → ℕ
width P = count_trailing_zeros 32 (2 * P.p)

abbrev pub high_width : Params → ℕ
high_width P = width P - 1

-- The bytes of m polynomials of w bits a coefficient.
unfoldable pub length_of : Params → ℕ → ℕ → ℕ
length_of P m w = m * (P.n / 8 * w)

-- Lengths in bytes: the public polynomials, keys, the ciphertext, and the padded message (01: container).
abbrev pub stored_length : Params → ℕ
stored_length P = length_of P P.l (P.k - P.t)

abbrev pub public_length : Params → ℕ
public_length P = stored_length P + P.seed

abbrev pub secret_length : Params → ℕ
secret_length P = public_length P + (P.seed + P.seed)

abbrev pub ciphertext_length : Params → ℕ
ciphertext_length P = length_of P (P.l + 1) P.k

abbrev pub padded_length : Params → ℕ
padded_length P = length_of P (P.l + 1) (width P)

-- Lengths in bytes of one polynomial of A, and of the streams from μ, from γ and from the coins.
abbrev pub polynomial_length : Params → ℕ
polynomial_length P = length_of P 1 P.k

abbrev pub matrix_length : Params → ℕ
matrix_length P = length_of P (P.l * P.l) P.k

abbrev pub secrets_length : Params → ℕ
secrets_length P = length_of P (2 * P.l) (width P)

abbrev pub low_length : Params → ℕ
low_length P = length_of P P.l P.t

abbrev pub high_length : Params → ℕ
high_length P = length_of P 1 (high_width P)

abbrev pub rest_length : Params → ℕ
rest_length P = length_of P (P.l - 1) (width P)

abbrev pub coins_stream_length : Params → ℕ
coins_stream_length P = low_length P + (padded_length P + (high_length P + rest_length P))

-- Lengths in bytes of the work areas: a polynomial of A lies where a stream lay that is not read any more, in decryption behind
-- the mask, in the noise where the stream of the coins comes.
abbrev pub keygen_work : Params → ℕ
keygen_work P = max (secrets_length P) (polynomial_length P)

abbrev pub encrypt_work : Params → ℕ
encrypt_work P = max (coins_stream_length P) (polynomial_length P)

abbrev pub decrypt_work : Params → ℕ
decrypt_work P = (low_length P + padded_length P) + max (high_length P + rest_length P) (polynomial_length P)

abbrev pub noise_work : Params → ℕ
noise_work P = secrets_length P + max (coins_stream_length P) (polynomial_length P)

-- The four sets.
abbrev pub set1 : Params
set1 = record { n = 256; l = 3; p = 4; t = 2; k = 14; seed = 32; coins = 32; rate = 168 }

abbrev pub set2 : Params
set2 = record { n = 512; l = 2; p = 2; t = 2; k = 13; seed = 64; coins = 64; rate = 136 }

abbrev pub set3 : Params
set3 = record { n = 512; l = 2; p = 4; t = 1; k = 14; seed = 64; coins = 64; rate = 136 }

abbrev pub set4 : Params
set4 = record { n = 512; l = 3; p = 2; t = 1; k = 13; seed = 64; coins = 64; rate = 136 }

-- Whether there is a set of this number.
abbrev pub is_set : ℕ → Bool
is_set s = leb 1 s && leb s 4

-- The parameters of a set; those of set 4 where there is none.
unfoldable pub of_set : ℕ → Params
of_set s = cond (eqb s 1) set1 (cond (eqb s 2) set2 (cond (eqb s 3) set3 set4))

-- What the theorems and the code need of parameters.
pub record WellFormed (P : Params) : Type 0 where
  -- whole bytes, and n a multiple of 8
  pub eights : P.n ≡ 8 * (P.n / 8)
  pub some_coefficients : 0 < P.n
  pub some_polynomials : 0 < P.l
  -- 2p is the power of two of its width, and p is even
  pub narrow : 2 ^ width P ≡ 2 * P.p
  pub wide : 2 ≤ width P
  -- a small coefficient is below q
  pub small : width P ≤ P.k
  -- t bits are dropped, and some are kept
  pub dropped : 1 ≤ P.t
  pub kept : P.t < P.k
  -- q/4 is whole
  pub quarters : 2 ≤ P.k
  -- the coins give one bit to each coefficient, and the digest is a message
  pub coin_bits : 8 * P.coins ≡ P.n
  pub digest_fits : P.coins < padded_length P
  -- what the code's words and arrays hold
  pub word : P.k ≤ 16
  pub short : P.n ≤ 512
  pub few : P.l ≤ 8
  pub vector : P.l * P.n ≤ 1536
  pub cipher_fits : ciphertext_length P ≤ 3584
  pub padded_fits : padded_length P ≤ 1024
  -- with these bounds of n and ℓ, what keeps every sum of the noise within 32 bits
  pub small_secrets : P.p ≤ 64
  pub few_dropped : P.t ≤ 6
  pub some_rate : 0 < P.rate
  pub rate_fits : P.rate ≤ 200
  pub seed_fits : P.seed ≤ 512

-- What `parameters` gives.
pub record Parameters (set : ℕ) (P : Params) : Type 0 where
  pub are : P ≡ of_set set
  pub well : WellFormed P

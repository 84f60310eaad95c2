-- What the functions of `cipher_terms` ask of their slices: lengths, and the stream of the coins. Rests on the definitions of `kindi`.
use Rattle.std.specs.Prelude.{◌≡◌, List, ℕ, ◌*◌, ◌≤◌, ◌<◌, length}
use Rattle.keccak.specs.Lists.{patched}
use Rattle.kindi.specs.declared.Params.{Params}
use Rattle.kindi.specs.Params.{WellFormed, stored_length, low_length, padded_length, high_length, rest_length}
use Rattle.kindi.specs.Streams.{coins_stream}

-- A public key, a string that begins with w, the number of a polynomial, and room for two.
pub record DecompressRoom (P : Params) (pk low : List ℕ) (i : ℕ) (w f : List ℕ) : Type 0 where
  pub well : WellFormed P
  pub stored_there : stored_length P ≤ length pk
  pub low_there : low_length P ≤ length low
  pub turn : i < P.l
  pub low_long : length w ≡ P.n
  pub list_long : length f ≡ P.n

-- Coins, strings that begin with h and with s_2 to s_ℓ, room for h and for s.
pub record EphemeralRoom (P : Params) (coins high rest h s : List ℕ) : Type 0 where
  pub well : WellFormed P
  pub coins_long : length coins ≡ P.coins
  pub high_there : high_length P ≤ length high
  pub rest_there : rest_length P ≤ length rest
  pub high_long : length h ≡ P.n
  pub secret_long : length s ≡ P.l * P.n

-- A public key, a string that begins with w, a vector, room for two polynomials, and a sum.
pub record ProductsRoom (P : Params) (pk low s f w d : List ℕ) : Type 0 where
  pub well : WellFormed P
  pub stored_there : stored_length P ≤ length pk
  pub low_there : low_length P ≤ length low
  pub secret_long : length s ≡ P.l * P.n
  pub list_long : length f ≡ P.n
  pub low_long : length w ≡ P.n
  pub sum : length d ≡ P.n

-- A string that has the stream of the coins but for the mask's place, where any other string of its length may lie.
pub record StreamOf (P : Params) (coins stream : List ℕ) : Type 0 where
  pub inside : List ℕ
  pub inside_long : length inside ≡ padded_length P
  pub stream_is : stream ≡ patched (low_length P) (padded_length P) inside (coins_stream P coins)

-- Such a string with a public key and coins, room for two polynomials and for s, and a sum.
pub record TermsRoom (P : Params) (pk coins stream f w s d : List ℕ) : Type 0 where
  pub well : WellFormed P
  pub stored_there : stored_length P ≤ length pk
  pub coins_long : length coins ≡ P.coins
  pub stream_there : StreamOf P coins stream
  pub list_long : length f ≡ P.n
  pub low_long : length w ≡ P.n
  pub secret_long : length s ≡ P.l * P.n
  pub sum : length d ≡ P.n

-- What the code reads from the streams of γ and of the coins, from b in full, and the noise of these. Rests on the definitions
-- of `kindi`.
use Rattle.std.specs.Prelude.{List, map, ℕ, ◌+◌, ◌-◌, ◌%◌, ◌^◌, ℤ, pos, ◌+ℤ◌, ◌-ℤ◌, length, get_or, take, drop}
use Rattle.keccak.specs.Lists.{tabulate}
use Rattle.bits.specs.Bits.{pack}
use Rattle.ring.specs.Integers.{centred}
use Rattle.ring.specs.Poly.{Poly, plus, minus, dot}
use Rattle.kindi.specs.declared.Params.{Params}
use Rattle.kindi.specs.Params.{low_length, padded_length, high_length, secrets_length}
use Rattle.kindi.specs.Streams.{coefficient, small_in, low_in, ephemeral_by}
use Rattle.kindi.specs.Keys.{compress}

-- Polynomial i of b in full without its low t bits, in k − t bits.
unfoldable pub dropped_bits : Params → List ℕ → ℕ → List ℕ
dropped_bits P b i = pack (P.k - P.t) (map (compress P.t) (tabulate P.n (coefficient P.k P.n b i)))

-- X_i from a string that begins with w, the stream of γ, and b in full.
unfoldable pub key_noise_in : Params → List ℕ → List ℕ → List ℕ → ℕ → Poly
key_noise_in P low secrets b i x =
    (low_in P low i x +ℤ small_in P secrets (P.l + i) x) -ℤ pos (coefficient P.k P.n b i x % 2 ^ P.t)

-- X from the values of w, of r' and of the low bits of b at each coefficient.
unfoldable pub combined : Params → List ℕ → List ℕ → List ℕ → List ℤ
combined P w r low =
    tabulate (length w) (λ k. (centred (2 ^ (P.t - 1)) (get_or w k 0) +ℤ centred P.p (get_or r k 0)) -ℤ pos (get_or low k 0))

-- The noise whose streams are these: that of γ, and that of the coins with the masked message in the mask's place.
unfoldable pub noise_in : Params → List ℕ → List ℕ → List ℕ → List ℕ → Poly
noise_in P b coins secrets stream =
    let end = low_length P + padded_length P in
    let e = small_in P (take (padded_length P) (drop (low_length P) stream)) in
    let s = ephemeral_by P coins (drop end stream) (drop (end + high_length P) stream) in
    minus (plus (dot P.l P.n (key_noise_in P stream secrets b) s) (e P.l)) (dot P.l P.n e (small_in P secrets))

-- Its coefficients, where the streams lie one after the other.
unfoldable pub noises_from : Params → List ℕ → List ℕ → List ℕ → List ℤ
noises_from P b coins streams = tabulate P.n (noise_in P b coins (take (secrets_length P) streams) (drop (secrets_length P) streams))

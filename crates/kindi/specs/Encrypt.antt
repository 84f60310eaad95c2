-- Encryption (01: sealing), of a message with coins under a public key. Rests on Streams and Keys.
use Rattle.std.specs.Prelude.{cond, List, ◌∷◌, ◌++◌, ℕ, ◌+◌, ◌-◌, ◌*◌, ◌^◌, eqb, ltb, pos, ◌+ℤ◌, ◌*ℤ◌, length, replicate}
use Rattle.keccak.specs.Strings.{xor_into}
use Rattle.bits.specs.Bits.{pack}
use Rattle.ring.specs.Poly.{Poly, plus, dot, transposed, unit, residues}
use Rattle.kindi.specs.declared.Params.{Params}
use Rattle.kindi.specs.Params.{modulus, half, padded_length}
use Rattle.kindi.specs.Streams.{small_in, matrix, low_part, mask, ephemeral}
use Rattle.kindi.specs.Keys.{joined, stored, matrix_seed}

-- The padded message (01: container): the message, one byte 01, then zeros.
unfoldable pub padded : Params → List ℕ → List ℕ
padded P message = message ++ (1 ∷ replicate (padded_length P - (length message + 1)) 0)

-- The padded message xor the mask.
unfoldable pub masked : Params → List ℕ → List ℕ → List ℕ
masked P coins message = xor_into (mask P coins) (padded P message)

-- It gives ℓ + 1 polynomials u of log 2p bits; the errors e are u − p.
unfoldable pub error : Params → List ℕ → List ℕ → ℕ → Poly
error P coins message = small_in P (masked P coins message)

-- Decompress: P_i is 2^t times stored polynomial i plus w_i, and P_1 has g times the polynomial 1 added, so g to its constant.
abbrev pub decompressed_by : Params → List ℕ → (ℕ → Poly) → ℕ → Poly
decompressed_by P pk w i x = (pos (2 ^ P.t * stored P pk i x) +ℤ w i x) +ℤ cond (eqb i 0) (pos (half P) *ℤ unit x) (pos 0)

unfoldable pub decompressed : Params → List ℕ → List ℕ → ℕ → Poly
decompressed P pk coins = decompressed_by P pk (low_part P coins)

-- What meets s in polynomial j of the ciphertext: column j of A, and P for the last one.
unfoldable pub factor : Params → List ℕ → List ℕ → ℕ → ℕ → Poly
factor P pk coins j = cond (ltb j P.l) (transposed (matrix P (matrix_seed P pk)) j) (decompressed P pk coins)

-- Polynomial j of the ciphertext without its errors: the sum of A_ij·s_i, and of P_i·s_i for the last one.
unfoldable pub noiseless : Params → List ℕ → List ℕ → ℕ → Poly
noiseless P pk coins j = dot P.l P.n (factor P pk coins j) (ephemeral P coins)

-- The ciphertext: C_j = sum of A_ij·s_i + e_j for each j, then D = sum of P_i·s_i + e_(ℓ+1), k bits a coefficient.
unfoldable pub ciphertext : Params → List ℕ → List ℕ → List ℕ → List ℕ
ciphertext P pk coins message =
    pack P.k (joined (P.l + 1) (λ j. residues (modulus P) P.n (plus (noiseless P pk coins j) (error P coins message j))))

-- Keys (01, "Keys, sealing, opening"): b = A·r + r', what is stored of it, and the parts of a key. Rests on Streams.
use Rattle.std.specs.Prelude.{List, [], ◌++◌, map, ℕ, zero, suc, ◌+◌, ◌-◌, ◌/◌, ◌^◌, take, drop}
use Rattle.bits.specs.Bits.{pack}
use Rattle.ring.specs.Poly.{Poly, plus, apply, residues}
use Rattle.kindi.specs.declared.Params.{Params}
use Rattle.kindi.specs.Params.{modulus, stored_length, public_length}
use Rattle.kindi.specs.Streams.{matrix, key_secret, coefficient}

-- The lists f 0 to f (m − 1), one after another.
unfoldable pub joined : ℕ → (ℕ → List ℕ) → List ℕ
joined zero f = []
joined (suc m) f = joined m f ++ f m

-- b = A·r + r', where r' follows r.
abbrev pub public_by : Params → (ℕ → ℕ → Poly) → (ℕ → Poly) → ℕ → Poly
public_by P A r i = plus (apply P.l P.n A r i) (r (P.l + i))

unfoldable pub public : Params → List ℕ → List ℕ → ℕ → Poly
public P μ γ = public_by P (matrix P μ) (key_secret P γ)

-- Compress: a coefficient without its low t bits.
abbrev pub compress : ℕ → ℕ → ℕ
compress t c = c / 2 ^ t

-- The public key: b modulo q, compressed, in k − t bits, then μ.
unfoldable pub public_key : Params → List ℕ → List ℕ → List ℕ
public_key P μ γ =
    pack (P.k - P.t) (joined P.l (λ i. map (compress P.t) (residues (modulus P) P.n (public P μ γ i)))) ++ μ

-- The secret key: the public key, γ, and the rejection seed z, which is only stored.
unfoldable pub secret_key : Params → List ℕ → List ℕ → List ℕ → List ℕ
secret_key P μ γ z = public_key P μ γ ++ (γ ++ z)

-- The parts of a public key: stored polynomial i, and μ.
unfoldable pub stored : Params → List ℕ → ℕ → ℕ → ℕ
stored P pk i x = coefficient (P.k - P.t) P.n pk i x

unfoldable pub matrix_seed : Params → List ℕ → List ℕ
matrix_seed P pk = drop (stored_length P) pk

-- The parts of a secret key: the public key, and γ.
unfoldable pub public_part : Params → List ℕ → List ℕ
public_part P sk = take (public_length P) sk

unfoldable pub secret_seed : Params → List ℕ → List ℕ
secret_seed P sk = take P.seed (drop (public_length P) sk)

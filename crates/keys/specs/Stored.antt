-- What a key stores of b, and b in full. Rests on the definitions of `kindi`.
use Rattle.std.specs.Prelude.{List, map, ℕ, ◌-◌}
use Rattle.bits.specs.Bits.{pack}
use Rattle.ring.specs.Poly.{residues}
use Rattle.kindi.specs.declared.Params.{Params}
use Rattle.kindi.specs.Params.{modulus}
use Rattle.kindi.specs.Keys.{joined, compress, public}

-- b modulo q without its low t bits, in k − t bits.
unfoldable pub stored_of : Params → ℕ → List ℕ → List ℕ → List ℕ
stored_of P t μ γ = pack (P.k - t) (joined P.l (λ i. map (compress t) (residues (modulus P) P.n (public P μ γ i))))

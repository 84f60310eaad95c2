-- What users of `add_product` cite: the vector and the sums may be replaced by polynomials that they hold modulo 2^16. Assumes
-- nothing.
use mathlib.Core.Path.{◌≡◌}
use mathlib.Core.Bool.{Bool}
use mathlib.Core.List.{List}
use Prim.Native.Nat.{ℕ, ◌<◌}
use Rattle.ring.specs.Integers.{Cong}
use Rattle.ring.specs.Poly.{Poly, plus, dot, parts}
use Rattle.ring.proofs.Modular.{cong_add, cong_refl}
use Rattle.ring.proofs.Ring.{dot_cong}
use Rattle.kindi.specs.declared.Params.{Params}
use Rattle.kindi.specs.Streams.{matrix}
use Rattle.vectors.specs.Vectors.{vector}
use Rattle.vectors.proofs.Congruent.{vector_near}
use Rattle.matrix.specs.Product.{oriented, with_matrix}

-- The products of A with V, added to S.
pub product_of : (P : Params) (μ : List ℕ) (columns : Bool) (v sums : List ℕ) (U S : ℕ → Poly)
    → ((i x : ℕ) → i < P.l → x < P.n → Cong 65536 (parts P.n v i x) (U i x))
    → ((i x : ℕ) → i < P.l → x < P.n → Cong 65536 (parts P.n sums i x) (S i x))
    → with_matrix P μ columns v sums ≡ vector P.l P.n (λ a. plus (dot P.l P.n (oriented columns (matrix P μ) a) U) (S a))
unfolding with_matrix
product_of P μ columns v sums U S near held =
    vector_near P.l P.n _ _ (λ a x h l.
    cong_add
    (dot_cong P.l P.n (oriented columns (matrix P μ) a) (oriented columns (matrix P μ) a) (parts P.n v) U
    (λ i y _ _. cong_refl (oriented columns (matrix P μ) a i y)) near l)
    (held a x h l))

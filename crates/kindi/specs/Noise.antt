-- The noise of an encryption (01, "Noise"), for keys made from μ and γ. Rests on Keys and Encrypt.
use Rattle.std.specs.Prelude.{Bool, List, ℕ, ◌/◌, ◌%◌, ◌^◌, ℤ, pos, neg_ℤ, ◌+ℤ◌, ◌-ℤ◌}
use Rattle.keccak.specs.Lists.{tabulate}
use Rattle.ring.specs.Integers.{residue, all_between}
use Rattle.ring.specs.Poly.{Poly, plus, minus, dot}
use Rattle.kindi.specs.declared.Params.{Params}
use Rattle.kindi.specs.Params.{modulus}
use Rattle.kindi.specs.Streams.{secret, key_error, low_part, ephemeral}
use Rattle.kindi.specs.Keys.{public}
use Rattle.kindi.specs.Encrypt.{error}

-- X_i = w_i + r'_i − (b_i modulo 2^t), with b_i in 0 to q − 1.
unfoldable pub key_noise : Params → List ℕ → List ℕ → List ℕ → ℕ → Poly
key_noise P μ γ coins i x =
    (low_part P coins i x +ℤ key_error P γ i x) -ℤ pos (residue (modulus P) (public P μ γ i x) % 2 ^ P.t)

-- The noise: sum of X_i·s_i, plus e_(ℓ+1), less the sum of e_j·r_j, over the integers.
unfoldable pub noise : Params → List ℕ → List ℕ → List ℕ → List ℕ → Poly
noise P μ γ coins message =
    minus (plus (dot P.l P.n (key_noise P μ γ coins) (ephemeral P coins)) (error P coins message P.l))
    (dot P.l P.n (error P coins message) (secret P γ))

-- Its coefficients.
unfoldable pub noises : Params → List ℕ → List ℕ → List ℕ → List ℕ → List ℤ
noises P μ γ coins message = tabulate P.n (noise P μ γ coins message)

-- Clear: every coefficient lies strictly between −q/4 and q/4.
unfoldable pub inside : ℕ → List ℤ → Bool
inside q xs = all_between (neg_ℤ (pos (q / 4))) (pos (q / 4)) xs

unfoldable pub clear : Params → List ℕ → List ℕ → List ℕ → List ℕ → Bool
clear P μ γ coins message = inside (modulus P) (noises P μ γ coins message)

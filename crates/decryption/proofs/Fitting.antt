-- Where every error fits, the low bits of what remains of a ciphertext are all of it. Assumes nothing.
use mathlib.Core.Path.{◌≡◌, refl, ap, ap₂}
use mathlib.Core.Bool.{true}
use mathlib.Core.List.{List, [], ◌∷◌}
use Prim.Native.Nat.{ℕ, suc, ◌*◌, ◌^◌, ◌<◌}
use native.Mathlib.Nat.{mod-eq_of_lt}
use lib.Pow.{pow_pos}
use Rattle.keccak.specs.Strings.{xor_into}
use Rattle.bits.specs.Bits.{pack, low_bits, Below}
use Rattle.kindi.specs.declared.Params.{Params}
use Rattle.kindi.specs.Params.{WellFormed, width}
use Rattle.kindi.specs.Streams.{mask}
use Rattle.kindi.specs.Decrypt.{remainders, errors_fit, unmasked}
use Rattle.kindi.proofs.Padding.{all_below_below}
use Rattle.decryption.specs.Opened.{opened}

-- Entries below 2^w are their low bits.
low_bits-same : (w : ℕ) (cs : List ℕ) → Below (2 ^ w) cs → low_bits w cs ≡ cs
unfolding low_bits
low_bits-same w [] h = refl
low_bits-same w (c ∷ cs) h = ap₂ (λ (x : ℕ) (l : List ℕ). x ∷ l) (mod-eq_of_lt (h 0)) (low_bits-same w cs (λ i. h (suc i)))

-- The padded message from the low bits is the padded message.
pub opened_fits : (P : Params) → WellFormed P → (pk coins ct : List ℕ) → errors_fit P.p (remainders P pk coins ct) ≡ true
    → opened P pk coins ct ≡ unmasked P pk coins ct
unfolding opened unmasked
opened_fits P w pk coins ct fit =
    let some : 0 < 2 * P.p = rw w.narrow at (pow_pos (width P)) in
    let below : Below (2 ^ width P) (remainders P pk coins ct) = rw w.narrow (all_below_below (2 * P.p) _ some fit) in
    ap (λ (us : List ℕ). xor_into (mask P coins) (pack (width P) us)) (low_bits-same (width P) (remainders P pk coins ct) below)

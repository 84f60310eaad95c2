-- Bounds of the values and of the factors of the noise. Assumes nothing.
use mathlib.Core.Path.{◌≡◌, sym, ap, ◌∙◌}
use mathlib.Core.List.{List}
use Prim.Native.Nat.{ℕ, zero, suc, ◌+◌, ◌-◌, ◌*◌, ◌/◌, ◌%◌, ◌^◌, ◌≤◌, ◌<◌, suc-le-suc, zero-le}
use native.Mathlib.Nat.{le_refl, lt_of_lt_of_le, mod-lt, pow-suc, mul_comm, mul-div_cancel, zero-mul, one-mul, mul-one, mul-le-mul, not-suc-le-zero}
use native.Mathlib.Omega.{arith}
use lib.IntN.{pos, neg_ℤ, nat_abs, ◌+ℤ◌, ◌-ℤ◌, +ℤ_idl}
use lib.Pow.{pow_pos, pow_mono, pow-add}
use mir.Syntax.{w16, w32}
use mir.Val.{SFits}
use Rattle.keccak.specs.Lists.{tabulate}
use Rattle.bits.specs.Bits.{Below}
use Rattle.ring.specs.Integers.{centred}
use Rattle.ring.proofs.Integers.{nat_abs_add, nat_abs_neg}
use Rattle.ring.proofs.Sizes.{abs-centred, fits_abs}
use Rattle.kindi.specs.declared.Params.{Params}
use Rattle.kindi.specs.Params.{WellFormed, modulus, width, high_width, length_of}
use Rattle.kindi.specs.Streams.{coefficient, small_in, low_in, ephemeral_by}
use Rattle.kindi.proofs.Strings.{coefficient_below, tabulate_below}
use Rattle.vectors.proofs.Amounts.{part_bound}
use Rattle.noise.specs.Terms.{key_noise_in}
use Rattle.noise.proofs.Products.{Sized}

-- Twice 2^(w−1).
twice : (w : ℕ) → 1 ≤ w → 2 * 2 ^ (w - 1) ≡ 2 ^ w
twice zero h = absurd (not-suc-le-zero h)
twice (suc w) h =
    let less : suc w - 1 ≡ w = omega arith in
    rw less (mul_comm 2 (2 ^ w) ∙ sym (pow-suc 2 w))

-- 2^t and its half are at most 64, and so are values of t bits.
pub low_power : (P : Params) → WellFormed P → 2 ^ P.t ≤ 64
low_power P W = pow_mono W.few_dropped

pub half_power : (P : Params) → WellFormed P → 2 ^ (P.t - 1) ≤ 64
half_power P W = pow_mono {i = P.t - 1} {j = 6} (omega (arith, W.few_dropped))

-- A small value is below 2p.
pub small_below : (P : Params) → WellFormed P → (bytes : List ℕ) (m x : ℕ) → coefficient (width P) P.n bytes m x < 2 * P.p
small_below P W bytes m x = rw W.narrow at (coefficient_below (width P) P.n bytes m x)

-- So is a bit plus twice a value of the high part.
pub first_below : (P : Params) → WellFormed P → (coins high : List ℕ) (x : ℕ)
    → coefficient 1 P.n coins 0 x + 2 * coefficient (high_width P) P.n high 0 x < 2 * P.p
first_below P W coins high x =
    omega (
      arith,
      coefficient_below 1 P.n coins 0 x,
      coefficient_below (high_width P) P.n high 0 x,
      twice (width P) (omega (arith, W.wide)),
      W.narrow,
    )

-- Small polynomials, s_1 among them, have coefficients of at most p.
pub small_sized : (P : Params) → WellFormed P → (bytes : List ℕ) (m : ℕ) → Sized P.n P.p (small_in P bytes m)
small_sized P W bytes m x h =
    abs-centred P.p (coefficient (width P) P.n bytes m x) (le_refl P.p) (omega (arith, small_below P W bytes m x))

pub ephemeral_sized : (P : Params) → WellFormed P → (coins high rest : List ℕ) (i : ℕ) →
    Sized P.n P.p (ephemeral_by P coins high rest i)
unfolding ephemeral_by
ephemeral_sized P W coins high rest zero x h =
    abs-centred P.p (coefficient 1 P.n coins 0 x + 2 * coefficient (high_width P) P.n high 0 x) (le_refl P.p)
    (omega (arith, first_below P W coins high x))
ephemeral_sized P W coins high rest (suc i) x h = small_sized P W rest i x h

-- No coefficient of X is larger than this, and none of the errors.
abbrev pub noise_most : Params → ℕ
noise_most P = 2 ^ (P.t - 1) + P.p + 2 ^ P.t

pub error_sized : (P : Params) → WellFormed P → (bytes : List ℕ) (m : ℕ) → Sized P.n (noise_most P) (small_in P bytes m)
error_sized P W bytes m x h = omega (arith, small_sized P W bytes m x h)

pub key-noise_sized : (P : Params) → WellFormed P → (stream secrets b : List ℕ) (i : ℕ) →
    Sized P.n (noise_most P) (key_noise_in P stream secrets b i)
unfolding key_noise_in
key-noise_sized P W stream secrets b i x h =
    let low : nat_abs (low_in P stream i x) ≤ 2 ^ (P.t - 1) =
    abs-centred (2 ^ (P.t - 1)) (coefficient P.t P.n stream i x) (le_refl (2 ^ (P.t - 1)))
    (omega (arith, coefficient_below P.t P.n stream i x, twice P.t W.dropped)) in
    let v : ℕ = coefficient P.k P.n b i x % 2 ^ P.t in
    let dropped : v < 2 ^ P.t = mod-lt (coefficient P.k P.n b i x) (pow_pos P.t) in
    omega (
      arith,
      nat_abs_add (low_in P stream i x +ℤ small_in P secrets (P.l + i) x) (neg_ℤ (pos v)),
      nat_abs_neg (pos v),
      nat_abs_add (low_in P stream i x) (small_in P secrets (P.l + i) x),
      low,
      small_sized P W secrets (P.l + i) x h,
      dropped,
    )

-- So no product of the noise is larger than 2^23.
pub product_most : (P : Params) → WellFormed P → P.n * (P.p * noise_most P) ≤ 2 ^ 23
product_most P W =
    let each : noise_most P ≤ 192 = omega (arith, half_power P W, W.small_secrets, low_power P W) in
    let term : P.p * noise_most P ≤ 64 * 192 = mul-le-mul W.small_secrets each in
    let all : P.n * (P.p * noise_most P) ≤ 512 * (64 * 192) = mul-le-mul W.short term in
    omega (arith, all)

-- ---- words

centred-size : (p v : ℕ) → p < 4096 → v < 4096 → nat_abs (centred p v) ≤ 4096
centred-size p v hp hv = abs-centred p v (omega arith) (omega arith)

-- The steps to X fit 16 bits.
pub sum_fits : {h w p r : ℕ} → h < 4096 → w < 4096 → p < 4096 → r < 4096 → SFits w16 (centred h w +ℤ centred p r)
sum_fits {h} {w} {p} {r} hh hw hp hr =
    fits_abs w16 (centred h w +ℤ centred p r)
    (omega (arith, nat_abs_add (centred h w) (centred p r), centred-size h w hh hw, centred-size p r hp hr))

pub noise_fits : {h w p r v : ℕ} → h < 4096 → w < 4096 → p < 4096 → r < 4096 → v < 4096 → SFits w16 ((centred h w +ℤ centred p r) -ℤ pos v)
noise_fits {h} {w} {p} {r} {v} hh hw hp hr hv =
    fits_abs w16 ((centred h w +ℤ centred p r) -ℤ pos v)
    (omega (
      arith,
      nat_abs_add (centred h w +ℤ centred p r) (neg_ℤ (pos v)),
      nat_abs_neg (pos v),
      nat_abs_add (centred h w) (centred p r),
      centred-size h w hh hw,
      centred-size p r hp hr,
    ))

-- q/4.
pub quarter_power : (k : ℕ) → 2 ≤ k → 2 ^ (k - 2) ≡ 2 ^ k / 4
quarter_power k h =
    let rest : k - 2 + 2 ≡ k = omega arith in
    sym (ap (λ (m : ℕ). 2 ^ m / 4) (sym rest) ∙ ap (λ (m : ℕ). m / 4) (pow-add 2 (k - 2) 2) ∙
    mul-div_cancel (2 ^ (k - 2)) (suc-le-suc zero-le))

-- Values of a small polynomial, and of s_1, are below 2^15.
pub small_values : (P : Params) → WellFormed P → (bytes : List ℕ) (m : ℕ) →
    Below 32768 (tabulate P.n (coefficient (width P) P.n bytes m))
small_values P W bytes m =
    tabulate_below 32768 P.n (coefficient (width P) P.n bytes m) (suc-le-suc zero-le)
    (λ x _. omega (arith, small_below P W bytes m x, W.small_secrets))

pub first_values : (P : Params) → WellFormed P → (coins high : List ℕ)
    → Below 32768 (tabulate P.n (λ x. coefficient 1 P.n coins 0 x + 2 * coefficient (high_width P) P.n high 0 x))
first_values P W coins high =
    tabulate_below 32768 P.n (λ x. coefficient 1 P.n coins 0 x + 2 * coefficient (high_width P) P.n high 0 x) (suc-le-suc zero-le)
    (λ x _. omega (arith, first_below P W coins high x, W.small_secrets))

-- The coins have a bit for each coefficient.
pub coins_there : (P : Params) → WellFormed P → length_of P 0 1 + length_of P 1 1 ≤ P.coins
unfolding length_of
coins_there P W = simp (zero-mul, one-mul, mul-one) (omega (arith, W.eights, W.coin_bits))

-- Values of few bits.
pub values_below : (b w n : ℕ) (bytes : List ℕ) (m : ℕ) → 2 ^ w ≤ b → Below b (tabulate n (coefficient w n bytes m))
values_below b w n bytes m h =
    tabulate_below b n (coefficient w n bytes m) (lt_of_lt_of_le (pow_pos w) h) (λ x _. lt_of_lt_of_le (coefficient_below w n bytes m x) h)

-- A stored polynomial fits 1,024 bytes.
pub stored_short : (P : Params) → WellFormed P → length_of P 1 (P.k - P.t) ≤ 1024
unfolding length_of
stored_short P W = rw (one-mul (P.n / 8 * (P.k - P.t))) (part_bound P W (omega (arith, W.word)))

-- −q/4 fits 32 bits.
pub quarter_fits : (P : Params) → WellFormed P → SFits w32 (pos 0 -ℤ pos (modulus P / 4))
quarter_fits P W =
    let most : 2 ^ P.k ≤ 2 ^ 16 = pow_mono W.word in
    rw (+ℤ_idl (neg_ℤ (pos (modulus P / 4))))
    (fits_abs w32 (neg_ℤ (pos (modulus P / 4))) (rw (nat_abs_neg (pos (modulus P / 4))) (omega arith)))

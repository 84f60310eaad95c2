-- Rounding: a value that is a bit times half the modulus plus a noise inside the interval of `clear` gives back the bit, so a
-- clear pair gives back its coins. Assumes nothing.
use mathlib.Core.Path.{◌≡◌, refl, sym, ap, ◌∙◌}
use mathlib.Core.Bool.{true}
use mathlib.Core.List.{List}
use Prim.Native.Nat.{ℕ, zero, suc, ◌+◌, ◌-◌, ◌*◌, ◌/◌, ◌%◌, ◌^◌, ◌≤◌, ◌<◌, zero-le, suc-le-suc}
use native.Mathlib.Nat.{pow-suc, mod-lt, mul_comm, not-suc-le-zero, lt_of_le_of_lt}
use native.Mathlib.Omega.{arith}
use borrow.Author.Tests.{ltb-true}
use lib.Arith.{digits_div, digits_lt, mod-mul}
use lib.IntN.{ℤ, pos, negsuc, neg_ℤ, nat_abs, ◌+ℤ◌, ◌-ℤ◌, ◌*ℤ◌, +ℤ_comm, +ℤ_assoc}
use lib.ListN.{length, get_or, drop}
use lib.Pow.{pow_pos}
use Rattle.keccak.specs.Lists.{tabulate}
use Rattle.keccak.proofs.Entries.{tabulate_at}
use Rattle.bits.specs.Bits.{Below, pack, unpack}
use Rattle.ring.specs.Integers.{Cong, residue, largest, all_between}
use Rattle.bits.proofs.Digits.{pack-unpack, length-unpack}
use Rattle.bits.proofs.Filling.{tabulate_ext, tabulate_entries}
use Rattle.ring.proofs.Integers.{ring, pos-sub}
use Rattle.ring.proofs.Modular.{cong_of_eq, cong_refl, cong_trans, cong_add, residue_unique, cong_sym, residue-add}
use Rattle.ring.proofs.Sizes.{all-between-size, le-largest}
use Rattle.kindi.specs.declared.Params.{Params}
use Rattle.kindi.specs.Params.{WellFormed, modulus, half, width, high_width, low_length, padded_length}
use Rattle.kindi.specs.Streams.{coefficient, coins_stream, ephemeral_by, ephemeral}
use Rattle.kindi.specs.Keys.{public_key}
use Rattle.kindi.specs.Encrypt.{ciphertext}
use Rattle.kindi.specs.Decrypt.{noisy_value, rounded_bit, rounded_coins}
use Rattle.kindi.specs.Noise.{noise, noises, inside, clear}
use Rattle.kindi.proofs.Strings.{coefficient-unpack, coefficient_below}
use Rattle.kindi.proofs.Value.{value_is}

-- ---- one bit

-- A power of two from the second on is four times another.
fours : (k : ℕ) → 2 ≤ k → 2 ^ k ≡ 4 * 2 ^ (k - 2)
fours k h =
    let e : k ≡ suc (suc (k - 2)) = omega arith in
    ap (λ (i : ℕ). 2 ^ i) e ∙ rw (pow-suc 2 (suc (k - 2)), pow-suc 2 (k - 2)) (omega arith)

-- An integer between −m and m, m added.
lifted : (m : ℕ) (e : ℤ) → nat_abs e < m → (r : ℕ) × (r < 2 * m) × (e +ℤ pos m ≡ pos r)
lifted m (pos a) h = (a + m, omega arith, refl)
lifted m (negsuc a) h =
    let less : suc a ≤ m = omega arith in
    (m - suc a, omega arith, +ℤ_comm (negsuc a) (pos m) ∙ sym (pos-sub less))

-- A bit times q/2, with a noise that is r once q/4 is added, rounds to the bit.
rounded_near : (q b r : ℕ) (v e : ℤ) → q ≡ 4 * (q / 4) → b < 2 → r < 2 * (q / 4) → e +ℤ pos (q / 4) ≡ pos r
    → Cong q v (pos (q / 2) *ℤ pos b +ℤ e) → rounded_bit q (residue q v) ≡ b
rounded_near q b r v e whole hb near is c =
    let m : ℕ = q / 4 in
    let g : ℕ = q / 2 in
    let u : ℕ = residue q v + m in
    let some : 0 < q = omega arith in
    let wide : 0 < g = omega arith in
    let small : r < g = omega arith in
    let halves : q ≡ 2 * g = omega arith in
    let below : b * g + r < 2 * g = digits_lt hb small in
    let sum : (pos g *ℤ pos b +ℤ e) +ℤ pos m ≡ pos (b * g + r) =
    +ℤ_assoc (pos g *ℤ pos b) e (pos m) ∙ ap (λ (z : ℤ). pos g *ℤ pos b +ℤ z) is ∙ ap (λ (k : ℕ). pos (k + r)) (mul_comm g b) in
    let congruent : Cong q (pos (b * g + r)) (v +ℤ pos m) = cong_sym (cong_trans (cong_add c (cong_refl (pos m))) (cong_of_eq sum)) in
    let there : u % q ≡ b * g + r =
    residue-add some m v (pos m) (cong_refl (pos m)) ∙ sym (residue_unique (omega arith) congruent) in
    let split : b * g + r ≡ (u / g % 2) * g + u % g = sym there ∙ ap (λ (k : ℕ). u % k) halves ∙ mod-mul u (suc-le-suc zero-le) wide in
    sym (digits_div (u / g % 2) (mod-lt u wide)) ∙ ap (λ (k : ℕ). k / g) (sym split) ∙ digits_div b small

-- So does one with a noise strictly between −q/4 and q/4.
pub rounded_bit_lem : (q b : ℕ) (v e : ℤ) → q ≡ 4 * (q / 4) → b < 2 → nat_abs e < q / 4 → Cong q v (pos (q / 2) *ℤ pos b +ℤ e)
    → rounded_bit q (residue q v) ≡ b
rounded_bit_lem q b v e whole hb he c =
    let up : (r : ℕ) × (r < 2 * (q / 4)) × (e +ℤ pos (q / 4) ≡ pos r) = lifted (q / 4) e he in
    rounded_near q b up.0 v e whole hb up.1 up.2 c

-- ---- the first polynomial of s

-- Half of q times the bit plus twice h, less an even p.
half_times : (g b h d : ℤ) → g *ℤ ((b +ℤ pos 2 *ℤ h) -ℤ pos 2 *ℤ d) ≡ g *ℤ b +ℤ (pos 2 *ℤ g) *ℤ (h -ℤ d)
half_times g b h d = simp ring

-- g·s₁ is q/2 times the bits of the coins, modulo q.
pub half_bits : (P : Params) → WellFormed P → (coins : List ℕ) (x : ℕ)
    → Cong (modulus P) (pos (half P) *ℤ ephemeral P coins 0 x) (pos (half P) *ℤ pos (coefficient 1 P.n coins 0 x))
unfolding ephemeral ephemeral_by
half_bits P W coins x =
    let b : ℕ = coefficient 1 P.n coins 0 x in
    let h : ℕ = coefficient (high_width P) P.n (drop (low_length P + padded_length P) (coins_stream P coins)) 0 x in
    let d : ℕ = 2 ^ (width P - 2) in
    let g : ℕ = half P in
    let twice : 2 * P.p ≡ 4 * d = sym W.narrow ∙ fours (width P) W.wide in
    let even : P.p ≡ 2 * d = omega arith in
    let halves : modulus P ≡ 2 * g = omega (arith, fours P.k W.quarters) in
    record {
      times = pos h -ℤ pos d;
      differ = ap (λ (k : ℕ). pos g *ℤ (pos (b + 2 * h) -ℤ pos k)) even ∙ half_times (pos g) (pos b) (pos h) (pos d)
          ∙ ap (λ (k : ℕ). pos g *ℤ pos b +ℤ pos k *ℤ (pos h -ℤ pos d)) (sym halves);
    }

-- ---- clear pairs

-- The integers of a list inside the interval of `clear` have an absolute value below q/4.
pub inside_at : (q : ℕ) (xs : List ℤ) (i : ℕ) → 0 < q / 4 → inside q xs ≡ true → nat_abs (get_or xs i (pos 0)) < q / 4
unfolding inside
inside_at q xs i some c = lt_of_le_of_lt (le-largest xs i) (go (q / 4) some c)
  where
    go : (m : ℕ) → 0 < m → all_between (neg_ℤ (pos m)) (pos m) xs ≡ true → largest xs < m
    go zero h e = absurd (not-suc-le-zero h)
    go (suc b) h e = ltb-true (largest xs) (suc b) (sym (all-between-size b xs) ∙ e)

module _ (P : Params) (W : WellFormed P) (μ γ coins message : List ℕ) (c : clear P μ γ coins message ≡ true) where
  -- The noise of a clear pair.
  pub clear_at : (x : ℕ) → x < P.n → nat_abs (noise P μ γ coins message x) < modulus P / 4
  unfolding clear noises
  clear_at x h =
      let some : 0 < modulus P / 4 = omega (arith, fours P.k W.quarters, pow_pos (P.k - 2)) in
      rw (tabulate_at P.n (noise P μ γ coins message) x (pos 0) h) at (inside_at (modulus P) (noises P μ γ coins message) x some c)

  -- Each bit is rounded to.
  pub clear-bit : (x : ℕ) → x < P.n
      → rounded_bit (modulus P) (residue (modulus P) (noisy_value P γ (ciphertext P (public_key P μ γ) coins message) x))
      ≡ coefficient 1 P.n coins 0 x
  clear-bit x h =
      let whole : modulus P ≡ 4 * (modulus P / 4) = omega (arith, fours P.k W.quarters) in
      rounded_bit_lem (modulus P) (coefficient 1 P.n coins 0 x) (noisy_value P γ (ciphertext P (public_key P μ γ) coins message) x)
      (noise P μ γ coins message x) whole (coefficient_below 1 P.n coins 0 x) (clear_at x h)
      (cong_trans (value_is P W μ γ coins message x h) (cong_add (half_bits P W coins x) (cong_refl (noise P μ γ coins message x))))

  -- So the coins found by rounding are those of the pair.
  pub clear_coins : Below 256 coins → length coins ≡ P.coins
      → rounded_coins P γ (ciphertext P (public_key P μ γ) coins message) ≡ coins
  unfolding rounded_coins
  clear_coins below long =
      let bits : List ℕ = unpack 1 P.n coins in
      let fill : 1 * P.n ≡ 8 * length coins = omega (arith, W.coin_bits) in
      let each : (x : ℕ) → x < P.n → coefficient 1 P.n coins 0 x ≡ get_or bits x 0 =
      λ x h. (let first : 0 * P.n + x ≡ x = omega arith in
      coefficient-unpack 1 P.n P.n coins 0 x (rw first h) ∙ ap (λ (i : ℕ). get_or bits i 0) first) in
      ap (pack 1) (tabulate_ext P.n _ (λ x. get_or bits x 0) (λ x h. clear-bit x h ∙ each x h)
      ∙ ap (λ (n : ℕ). tabulate n (λ x. get_or bits x 0)) (sym (length-unpack 1 P.n coins)) ∙ tabulate_entries bits 0)
      ∙ pack-unpack 1 P.n coins below fill

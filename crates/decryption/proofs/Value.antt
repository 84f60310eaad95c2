-- V as the code computes it modulo 2^16, and the coins that it rounds to. Assumes nothing.
use mathlib.Core.Path.{◌≡◌, sym, ap, ap₂, ◌∙◌}
use mathlib.Core.List.{List, map}
use Prim.Native.Nat.{ℕ, suc, ◌+◌, ◌-◌, ◌*◌, ◌/◌, ◌%◌, ◌^◌, ◌≤◌, ◌<◌, suc-le-suc, zero-le}
use native.Mathlib.Nat.{mod-add-div, add-mul-div_left, add-mul-mod_self_left, mod-mod, mul_assoc, mul-suc, mul-le-mul_left}
use native.Mathlib.Nat.{pow-suc, lt_of_lt_of_le}
use native.Mathlib.Omega.{arith}
use lib.IntN.{ℤ, pos, neg_ℤ, ◌+ℤ◌, ◌-ℤ◌}
use lib.ListN.{length}
use lib.Pow.{pow_pos, pow_mono}
use Rattle.hash.specs.Shake.{shake, shake_from}
use Rattle.hash.proofs.Laws.{length-shake, shake_split}
use Rattle.bits.specs.Bits.{Below, pack, unpack, low_bits}
use Rattle.bits.proofs.Digits.{length-unpack, unpack_below}
use Rattle.bits.proofs.Filling.{map-tabulate, tabulate_ext}
use Rattle.ring.specs.Integers.{Cong, residue, centred}
use Rattle.ring.specs.Poly.{Poly, plus, dot, parts, of_nats, residues}
use Rattle.ring.proofs.Integers.{ring}
use Rattle.ring.proofs.Modular.{cong_refl, cong_of_eq, cong_trans, cong_add, cong_neg, cong_sub, cong_power, residue_power, residue-eq}
use Rattle.ring.proofs.Residues.{residues_cong, length-residues, of_nats-residues, residues_of_list}
use Rattle.ring.proofs.Ring.{dot_cong}
use Rattle.product.specs.Dots.{with_dot}
use Rattle.kindi.specs.declared.Params.{Params}
use Rattle.kindi.specs.Params.{WellFormed, modulus, width, length_of, secrets_length, padded_length, decrypt_work}
use Rattle.kindi.specs.Streams.{coefficient, small_in, secret, key_secret}
use Rattle.kindi.specs.Decrypt.{cipher_part, noisy_value, rounded_bit, rounded_coins}
use Rattle.kindi.proofs.Strings.{coefficient-append, coefficient-unpack, whole_bytes, place_below, shake_below}
use Rattle.vectors.specs.Vectors.{vector}
use Rattle.vectors.proofs.Amounts.{length-add, length-le}
use Rattle.vectors.proofs.Reading.{flat, vector_cong}
use Rattle.decryption.specs.Opened.{value_by, coins_from}

-- ---- V

-- −(−D + S) is D − S.
opposite : (a b : ℤ) → neg_ℤ (neg_ℤ a +ℤ b) ≡ a -ℤ b
opposite a b = simp ring

-- An entry of a list of residues.
entry : {n x : ℕ} {xs : List ℕ} (f : Poly) → xs ≡ residues 65536 n f → x < n → Cong 65536 (of_nats xs x) (f x)
entry {n} {x} f e h = cong_trans (cong_of_eq (ap (λ (l : List ℕ). of_nats l x) e)) (of_nats-residues (suc-le-suc zero-le) n f h)

-- C_1 to C_ℓ, unpacked.
pub cipher_vector : (P : Params) → WellFormed P → (ct : List ℕ) → Below 256 ct
    → unpack P.k (P.l * P.n) ct ≡ vector P.l P.n (cipher_part P ct)
unfolding cipher_part
cipher_vector P W ct bytes =
    let N : ℕ = P.l * P.n in
    let us : List ℕ = unpack P.k N ct in
    let below : Below 65536 us = λ i. lt_of_lt_of_le (unpack_below P.k N ct i) (pow_mono W.word) in
    sym (residues_of_list 65536 us below) ∙ ap (λ (m : ℕ). residues 65536 m (of_nats us)) (length-unpack P.k N ct)
    ∙ flat P.l P.n (cipher_part P ct) (of_nats us)
    (λ i x h l. ap pos (sym (coefficient-unpack P.k P.n N ct i x (place_below h l))))

-- What `noisy_value` leaves: −D, then the sum of the products added, then its opposite.
pub value_left : (P : Params) (ct r f d v s : List ℕ) → f ≡ vector P.l P.n (cipher_part P ct)
    → d ≡ residues 65536 P.n (cipher_part P ct P.l) → v ≡ residues 65536 (length d) (λ k. neg_ℤ (of_nats d k)) → s ≡ with_dot P.l v f r
    → residues 65536 (length s) (λ k. neg_ℤ (of_nats s k)) ≡ residues 65536 P.n (value_by P ct (parts P.n r))
unfolding with_dot
value_left P ct r f d v s isF isD isV isS =
    let n : ℕ = P.n in
    let ld : length d ≡ n = ap length isD ∙ length-residues 65536 n (cipher_part P ct P.l) in
    let isV' : v ≡ residues 65536 n (λ k. neg_ℤ (of_nats d k)) = isV ∙ ap (λ (m : ℕ). residues 65536 m (λ k. neg_ℤ (of_nats d k))) ld in
    let lv : length v ≡ n = ap length isV' ∙ length-residues 65536 n (λ k. neg_ℤ (of_nats d k)) in
    let isS' : s ≡ residues 65536 n (plus (of_nats v) (dot P.l n (parts n f) (parts n r)))
    = isS ∙ ap (λ (m : ℕ). residues 65536 m (plus (of_nats v) (dot P.l m (parts m f) (parts m r)))) lv in
    let ls : length s ≡ n = ap length isS' ∙ length-residues 65536 n (plus (of_nats v) (dot P.l n (parts n f) (parts n r))) in
    ap (λ (m : ℕ). residues 65536 m (λ k. neg_ℤ (of_nats s k))) ls
    ∙ residues_cong (suc-le-suc zero-le) n _ _ (λ x h.
    cong_trans
    (cong_neg
    (cong_trans (entry (plus (of_nats v) (dot P.l n (parts n f) (parts n r))) isS' h)
    (cong_add
    (cong_trans (entry (λ k. neg_ℤ (of_nats d k)) isV' h) (cong_neg (entry (cipher_part P ct P.l) isD h)))
    (dot_cong P.l n (parts n f) (cipher_part P ct) (parts n r) (parts n r)
    (λ i y p q. rw isF (vector_cong P.l n (cipher_part P ct) i y p q)) (λ i y _ _. cong_refl (parts n r i y)) h))))
    (cong_of_eq (opposite (cipher_part P ct P.l x) (dot P.l n (cipher_part P ct) (parts n r) x))))

-- ---- r

-- The secret vector r is in the first half of the stream of γ.
secret-half : (P : Params) → WellFormed P → (γ : List ℕ) (i x : ℕ) → i < P.l → x < P.n
    → small_in P (shake P.rate γ (length_of P P.l (width P))) i x ≡ secret P γ i x
unfolding key_secret
secret-half P W γ i x h l =
    let L : ℕ = length_of P P.l (width P) in
    let first : List ℕ = shake P.rate γ L in
    let two : 2 * P.l ≡ P.l + P.l = omega arith in
    let total : secrets_length P ≡ L + L = ap (λ (m : ℕ). length_of P m (width P)) two ∙ length-add P P.l P.l (width P) in
    let room : width P * (i * P.n + x) + width P ≤ 8 * length first
    = rw (length-shake P.rate γ L, sym (whole_bytes P W P.l (width P)))
    (rw (sym (mul-suc (width P) (i * P.n + x))) (mul-le-mul_left (width P) (place_below h l))) in
    ap (centred P.p)
    (sym
    (ap (λ (m : ℕ). coefficient (width P) P.n (shake P.rate γ m) i x) total
    ∙ ap (λ (b : List ℕ). coefficient (width P) P.n b i x) (shake_split P.rate γ L L)
    ∙ coefficient-append (width P) P.n first (shake_from P.rate γ L L) i x (shake_below P.rate γ L) room))

-- It is shorter than a padded message, so it fits a work area.
pub secret_fits : (P : Params) → length_of P P.l (width P) ≤ decrypt_work P
secret_fits P =
    let shorter : length_of P P.l (width P) ≤ padded_length P = length-le P (width P) (omega arith) in
    omega (arith, shorter)

-- ---- rounding

-- Rounding reads a number modulo 2h only.
round-mod : (h c v : ℕ) → 0 < h → (v + c) / h % 2 ≡ (v % (2 * h) + c) / h % 2
round-mod h c v some =
    let r : ℕ = v % (2 * h) in
    let m : ℕ = v / (2 * h) in
    let split : v + c ≡ (r + c) + h * (2 * m) = omega (arith, mod-add-div v (2 * h), mul_assoc h 2 m, mul_assoc 2 h m) in
    ap (λ (k : ℕ). k / h % 2) split ∙ ap (λ (k : ℕ). k % 2) (add-mul-div_left (r + c) (2 * m) some) ∙
    add-mul-mod_self_left ((r + c) / h) 2 m

-- q is twice its half, which is not 0.
halves : (k : ℕ) → 2 ≤ k → (2 ^ k ≡ 2 * (2 ^ k / 2)) × (0 < 2 ^ k / 2)
halves k h =
    let e : k ≡ suc (k - 1) = omega arith in
    let some : 0 < 2 ^ (k - 1) = pow_pos (k - 1) in
    let two : 2 ^ k ≡ 2 * 2 ^ (k - 1) = ap (λ (i : ℕ). 2 ^ i) e ∙ rw (pow-suc 2 (k - 1)) (omega arith) in
    (omega arith, omega arith)

-- A bit of the coins may be read off any number that is V modulo q.
rounded_any : (k v : ℕ) → 2 ≤ k → rounded_bit (2 ^ k) v ≡ rounded_bit (2 ^ k) (v % 2 ^ k)
rounded_any k v h =
    let q : ℕ = 2 ^ k in
    let two = halves k h in
    round-mod (q / 2) (q / 4) v two.1 ∙ ap (λ (m : ℕ). (v % m + q / 4) / (q / 2) % 2) (sym two.0)

-- The code adds 2^(k−2) and shifts by k − 1.
pub shift_rounds : (k v : ℕ) {s : ℕ} → 2 ≤ k → s ≡ 2 ^ (k - 2) → (v + s) / 2 ^ (k - 1) % 2 ≡ rounded_bit (2 ^ k) v
shift_rounds k v {s} h e =
    let two : k ≡ suc (suc (k - 2)) = omega arith in
    let one : k - 1 ≡ suc (k - 2) = omega arith in
    let m : ℕ = 2 ^ (k - 2) in
    let whole : 2 ^ k ≡ 4 * m = ap (λ (i : ℕ). 2 ^ i) two ∙ rw (pow-suc 2 (suc (k - 2)), pow-suc 2 (k - 2)) (omega arith) in
    let half : 2 ^ (k - 1) ≡ 2 ^ k / 2 = ap (λ (i : ℕ). 2 ^ i) one ∙ rw (pow-suc 2 (k - 2)) (omega (arith, whole)) in
    let quarter : s ≡ 2 ^ k / 4 = e ∙ omega (arith, whole) in
    ap₂ (λ (a b : ℕ). (v + a) / b % 2) quarter half

-- V from two secret vectors that agree modulo 2^16, modulo q.
value_near : (P : Params) → WellFormed P → (ct : List ℕ) (r s : ℕ → Poly) → ((i x : ℕ) → i < P.l → x < P.n → Cong 65536 (r i x) (s i x))
    → (x : ℕ) → x < P.n → residue (modulus P) (value_by P ct r x) ≡ residue (modulus P) (value_by P ct s x)
value_near P W ct r s near x l =
    residue-eq (pow_pos P.k)
    (cong_power P.k 16 W.word
    (cong_sub (cong_refl (cipher_part P ct P.l x))
    (dot_cong P.l P.n (cipher_part P ct) (cipher_part P ct) r s (λ i y _ _. cong_refl (cipher_part P ct i y)) near l)))

-- Rounding V modulo 2^16, bit by bit, gives the coins.
pub coins_rounded : (P : Params) → WellFormed P → (bytes ct r d : List ℕ) → r ≡ vector P.l P.n (small_in P bytes)
    → d ≡ residues 65536 P.n (value_by P ct (parts P.n r)) → pack 1 (low_bits 1 (map (rounded_bit (2 ^ P.k)) d)) ≡ coins_from P bytes ct
unfolding coins_from residues low_bits
coins_rounded P W bytes ct r d isR isD =
    let n : ℕ = P.n in
    let q : ℕ = modulus P in
    let value : Poly = value_by P ct (parts n r) in
    let near : (i x : ℕ) → i < P.l → x < n → Cong 65536 (parts n r i x) (small_in P bytes i x)
    = λ i x p l. rw isR (vector_cong P.l n (small_in P bytes) i x p l) in
    ap (λ (l : List ℕ). pack 1 (map (λ c. c % 2 ^ 1) (map (rounded_bit q) l))) isD
    ∙ ap (λ (l : List ℕ). pack 1 (map (λ c. c % 2 ^ 1) l)) (map-tabulate (rounded_bit q) n (λ x. residue 65536 (value x)))
    ∙ ap (pack 1) (map-tabulate (λ c. c % 2 ^ 1) n (λ x. rounded_bit q (residue 65536 (value x)))
    ∙ tabulate_ext n _ _ (λ x l.
    mod-mod ((residue 65536 (value x) + q / 4) / (q / 2)) 2 ∙ rounded_any P.k (residue 65536 (value x)) W.quarters
    ∙ ap (rounded_bit q) (residue_power P.k 16 W.word (value x) ∙ value_near P W ct (parts n r) (small_in P bytes) near x l)))

-- With the first half of the stream of γ they are the recovered coins.
pub coins_recovered : (P : Params) → WellFormed P → (γ ct : List ℕ)
    → coins_from P (shake P.rate γ (length_of P P.l (width P))) ct ≡ rounded_coins P γ ct
unfolding coins_from rounded_coins noisy_value
coins_recovered P W γ ct =
    let bytes : List ℕ = shake P.rate γ (length_of P P.l (width P)) in
    ap (pack 1) (tabulate_ext P.n _ _ (λ x l.
    ap (rounded_bit (modulus P)) (value_near P W ct (small_in P bytes) (secret P γ) (λ i y p h. cong_of_eq (secret-half P W γ i y p h)) x l)))

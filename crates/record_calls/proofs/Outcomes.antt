-- From what a call leaves to what its record gives: the lent parts of the buffers, the checks before the call, and the output in two
-- parts. Assumes nothing.
use mathlib.Core.Path.{◌≡◌, refl, sym, ap, ap₂, ◌∙◌}
use mathlib.Core.Bool.{Bool, true, false, cond, not, ◌&&◌}
use mathlib.Core.List.{List, [], ◌++◌, append_assoc, append-nil}
use Prim.Native.Nat.{ℕ, ◌≤◌}
use native.Mathlib.Omega.{arith}
use borrow.Author.Tests.{eq-eqb, ne_eqb, ltb-false}
use lib.Dec.{ltb, leb}
use lib.ListN.{length, take, drop, replicate, length-replicate, take-append-drop}
use lib.Seq.{length-take-le, take-append_seam}
use Rattle.std.specs.Prelude.{Result}
use Rattle.std.specs.Result.{IsErrAnd}
use Rattle.calls.specs.declared.refusal.Refusal.{Refusal}
use Rattle.calls.specs.Refusals.{number_of}
use Rattle.calls.proofs.Refused.{refused_status, refused_value, refusal_not_0}
use Rattle.kindi.specs.declared.Params.{Params}
use Rattle.kindi.specs.Params.{Parameters, is_set, of_set}
use Rattle.kindi.specs.Answers.{Answer, refused, answered, refuse_if, then, differs}
use Rattle.kindi.specs.Calls.{number, output, returned, work_after, in_set}
use Rattle.kindi.proofs.Chains.{never, same_length}
use Rattle.kindi.proofs.Called.{Proper}
use Rattle.calls.proofs.Ends.{given as ends_given, work_wiped, too_short}
use Rattle.record_calls.specs.declared.Output.{Output}
use Rattle.record_calls.specs.Bodies.{Parts, kind_body, wrong_length, record_parts, joined}
use Rattle.record_calls.specs.Outputs.{first_most, second_most, Room, Outcome, outcome_of}
use Rattle.record_calls.specs.Outputs.{OutcomeOf, with_front, first_after, second_after, work_bytes, record_work}
use Rattle.record_calls.specs.Outputs.{Gives, AnswerExit}
use Rattle.record_calls.proofs.Sizes.{Sized, sized}

-- ---- the lent parts of the buffers

-- The first a bytes of a buffer were lent for a value of a call's answer, and have come back.
pub record Lent {A : Type 0} (call : Answer A) (value : A → List ℕ) (a : ℕ) (buffer part : List ℕ) : Type 0 where
  pub fits : a ≤ length buffer
  pub kept : length part ≡ length (take a buffer)
  pub is : part ≡ output call value (take a buffer)

module _ {A : Type 0} {call : Answer A} {value : A → List ℕ} {a : ℕ} {buffer part : List ℕ} (lent : Lent call value a buffer part) where
  -- They are the value where the call answers v.
  given : {v : A} → call ≡ answered v → part ≡ value v
  given same = lent.is ∙ sym (ends_given value (take a buffer) same)

  -- And as many.
  pub lent_length : {v : A} → call ≡ answered v → a ≡ length (value v)
  lent_length same = sym (length-take-le a buffer lent.fits) ∙ sym lent.kept ∙ ap length (given same)

  -- The whole buffer: the value at its front, or all as it was.
  pub lent_after : (answer : Answer A) → call ≡ answer → part ++ drop a buffer ≡ output answer (λ v. with_front (value v) buffer) buffer
  unfolding output with_front
  lent_after (refused n) same = rw (lent.is, same) (take-append-drop a buffer)
  lent_after (answered v) same = rw (given same, lent_length same) refl

-- No zeros follow.
pub no_zeros : {A : Type 0} (answer : Answer A) (value : A → List ℕ) (buffer : List ℕ)
    → output answer (λ v. with_front (value v) buffer) buffer ≡ output answer (λ v. with_front (value v ++ replicate 0 0) buffer) buffer
unfolding output
no_zeros (refused n) value buffer = refl
no_zeros (answered v) value buffer = rw (append-nil (value v)) refl

-- A buffer that is not lent, since there is no such part.
pub untouched : {A : Type 0} (answer : Answer A) (buffer : List ℕ)
    → buffer ≡ output answer (λ v. with_front ([] ++ replicate 0 0) buffer) buffer
unfolding output with_front
untouched (refused n) buffer = refl
untouched (answered v) buffer = refl

-- What was lent of the work area is zeros.
pub wiped_front : (set w need : ℕ) (work : List ℕ) {part : List ℕ} → is_set set ≡ true → w ≡ need → w ≤ length work
    → part ≡ work_after set need (take w work) → part ++ drop w work ≡ with_front (replicate need 0) work
unfolding with_front
wiped_front set w need work there e fits is =
    let long : length (take w work) ≡ need = length-take-le w work fits ∙ e in
    let zeros = sym (work_wiped set need (take w work) there (omega (arith, long))) in
    rw (is ∙ zeros, long, length-replicate {A = ℕ} need 0, e) refl

-- ---- an outcome

-- The outcome of a refusal that is passed on.
pub refused_outcome : (m n : ℕ) (r : Result Output Refusal) (e : Refusal) → IsErrAnd r (λ f. f ≡ e) → OutcomeOf (number_of e) m n (outcome_of r)
refused_outcome m n r e passed = record {
  status_is = refused_status r e passed;
  first_is = sym (refused_value (λ o. o.first) r e passed) ∙ rw (ne_eqb (number_of e) 0 (refusal_not_0 e)) refl;
  second_is = sym (refused_value (λ o. o.second) r e passed) ∙ rw (ne_eqb (number_of e) 0 (refusal_not_0 e)) refl;
}

-- And of success.
pub answered_outcome : (m n : ℕ) → OutcomeOf 0 m n (record { status = 0; first = m; second = n })
answered_outcome m n = record { status_is = refl; first_is = refl; second_is = refl }

-- A refusal's: every buffer is as it was.
refused_gives : {status m n : ℕ} {r : Outcome} {answer : Answer Parts} {wiped first second first' second' work' : List ℕ}
    → OutcomeOf status m n r → (status ≡ 0 → ⊥) → answer ≡ refused status
    → first' ≡ first → second' ≡ second → work' ≡ wiped → Gives answer wiped first second r first' second' work'
unfolding number returned output first_after second_after
refused_gives {status} {m} {n} {r} o bad is f s w =
    let a : r.first ≡ 0 = o.first_is ∙ rw (ne_eqb status 0 bad) refl in
    let b : r.second ≡ 0 = o.second_is ∙ rw (ne_eqb status 0 bad) refl in
    rw is (record {
      status_is = o.status_is;
      first_length = a;
      second_length = b;
      first_is = f;
      second_is = s;
      work_is = w;
      first_fits = omega (arith, a);
      second_fits = omega (arith, b);
    })

-- What a call answers, its output in two parts: where it succeeds they are m and n bytes long.
pub gives : {A : Type 0} (answer : Answer A) (out : A → Parts) → Proper answer → {status m n : ℕ} {r : Outcome}
    {wiped first second first' second' work' : List ℕ} → status ≡ number answer → OutcomeOf status m n r
    → m ≤ first_most → n ≤ second_most
    → ((v : A) → answer ≡ answered v → m ≡ length (out v).first) → ((v : A) → answer ≡ answered v → n ≡ length (out v).second)
    → first' ≡ output answer (λ v. with_front (out v).first first) first
    → second' ≡ output answer (λ v. with_front ((out v).second ++ replicate (out v).zeros 0) second) second
    → work' ≡ wiped → Gives (then answer (λ v. answered (out v))) wiped first second r first' second' work'
unfolding number returned output then first_after second_after
gives (refused k) out p e o hm hn long long2 f s w =
    refused_gives o
    (λ z.
    let not_so = (p (sym e ∙ z)).1 in
    never (cc))
    (ap refused (sym e)) f s w
gives (answered v) out p {status} {m} {n} {r} e o hm hn long long2 f s w =
    let a : r.first ≡ m = o.first_is ∙ rw (eq-eqb status 0 e) refl in
    let b : r.second ≡ n = o.second_is ∙ rw (eq-eqb status 0 e) refl in
    record {
      status_is = o.status_is ∙ e;
      first_length = a ∙ long v refl;
      second_length = b ∙ long2 v refl;
      first_is = f;
      second_is = s;
      work_is = w;
      first_fits = rw a hm;
      second_fits = rw b hn;
    }

-- The two parts stand at the fronts of their buffers: joined they are the output, which is empty after a refusal.
pub gives_output : (answer : Answer Parts) {wiped first second first' second' work' : List ℕ} {r : Outcome}
    → Gives answer wiped first second r first' second' work'
    → take r.first first' ++ take r.second second' ≡ output (joined answer) (λ o. o) []
unfolding returned output then joined first_after second_after with_front
gives_output (refused n) g = rw (g.first_length, g.second_length) refl
gives_output (answered parts) g =
    rw (g.first_length, g.second_length, g.first_is, g.second_is)
    (ap₂ ◌++◌ (take-append_seam parts.first _)
    (ap (take (length parts.second)) (append_assoc parts.second _ _) ∙ take-append_seam parts.second _))

-- The number of the joined answer is that of the parts'.
pub joined_number : (answer : Answer Parts) → number (joined answer) ≡ number answer
unfolding number then joined
joined_number (refused n) = refl
joined_number (answered parts) = refl

-- ---- the checks before a call

-- The status of the two checks.
abbrev pub early : ℕ → Bool → ℕ
early set bad = cond (not (is_set set)) 1 (cond bad 2 0)

-- One of the two fails.
early_refused : (there bad : Bool) (next : Answer Parts) {status : ℕ} → status ≡ cond (not there) 1 (cond bad 2 0)
    → (status ≡ 0 → ⊥) → refuse_if (not there) 1 (refuse_if bad 2 next) ≡ refused status
unfolding refuse_if
early_refused false bad next is wrong = ap refused (sym is)
early_refused true true next is wrong = ap refused (sym is)
early_refused true false next is wrong = absurd (wrong is)

-- Then there is no call, so the work area is as it was.
early_work : (there bad : Bool) (wiped work : List ℕ) {status : ℕ} → status ≡ cond (not there) 1 (cond bad 2 0)
    → (status ≡ 0 → ⊥) → work ≡ cond (there && not bad) wiped work
early_work false bad wiped work is wrong = refl
early_work true true wiped work is wrong = refl
early_work true false wiped work is wrong = absurd (wrong is)

-- And the record is refused with that status.
pub early_gives : (kind : ℕ) (body : List ℕ) {set status m n : ℕ} {P : Params} {first second work : List ℕ} {r : Outcome}
    → Parameters set P → status ≡ early set (wrong_length kind P (length body)) → (status ≡ 0 → ⊥) → OutcomeOf status m n r
    → AnswerExit kind set body first second work r first second work
unfolding record_parts in_set record_work
early_gives kind body {set} {work = work} p is wrong o =
    let bad = wrong_length kind (of_set set) (length body) in
    let early-is = rw p.are at is in
    refused_gives o wrong (early_refused (is_set set) bad _ early-is wrong) refl refl (early_work (is_set set) bad _ work early-is wrong)

-- Both pass.
both_pass : (there bad : Bool) {status : ℕ} → status ≡ cond (not there) 1 (cond bad 2 0) → status ≡ 0 → (there ≡ true) × (bad ≡ false)
both_pass false bad e z = absurd (omega arith)
both_pass true true e z = absurd (omega arith)
both_pass true false e z = (refl, refl)

-- What holds then: the parameters are the set's, the body is as long as is asked for, or longer where that is allowed, and there is
-- room for what the call writes.
pub record Ready (set : ℕ) (P : Params) (bad : ℕ → ℕ → Bool) (asked : ℕ) (body first second work : List ℕ) : Type 0 where
  pub are : P ≡ of_set set
  pub size : Sized P
  pub there : is_set set ≡ true
  pub fits : bad (length body) asked ≡ false
  pub long : asked ≤ length body
  pub room : Room first second work

module _ {set asked status : ℕ} {P : Params} {body first second work : List ℕ} (room : Room first second work)
    (p : Parameters set P) where
  -- Where the length has to be the one asked for.
  pub ready_exact : status ≡ early set (differs (length body) asked) → status ≡ 0 → Ready set P differs asked body first second work
  ready_exact is zero_is =
      let ok = both_pass _ _ is zero_is in
      let same = same_length {a = length body} {b = asked} ok.1 in
      record { are = p.are; size = sized P p.well; there = ok.0; fits = ok.1; long = omega arith; room = room }

  -- Where it may be longer.
  pub ready_least : status ≡ early set (not (leb asked (length body))) → status ≡ 0 → Ready set P ltb asked body first second work
  ready_least is zero_is =
      let ok = both_pass _ _ (rw (too_short asked (length body)) at is) zero_is in
      record { are = p.are; size = sized P p.well; there = ok.0; fits = ok.1; long = ltb-false _ _ ok.1; room = room }

-- Then the record gives what the call does, and what the call was lent of the work area is zeros.
pub ready_gives : (kind : ℕ) {set asked : ℕ} {P : Params} {bad : ℕ → ℕ → Bool} {body first second work first' second' work' : List ℕ}
    {r : Outcome} → Ready set P bad asked body first second work → bad (length body) asked ≡ wrong_length kind P (length body)
    → Gives (kind_body kind P body) (with_front (replicate (work_bytes kind P) 0) work) first second r first' second' work'
    → AnswerExit kind set body first second work r first' second' work'
unfolding record_parts in_set refuse_if record_work
ready_gives kind ok same g = rw (ok.there, ← ok.are, sym same ∙ ok.fits) g

-- How the SHAKE calls end: a refusal, and success. Assumes nothing.
use mathlib.Core.Path.{◌≡◌, sym, ap, ◌∙◌}
use mathlib.Core.Bool.{Bool, true, false}
use mathlib.Core.List.{List}
use Prim.Native.Nat.{ℕ, ◌+◌}
use borrow.Author.Tests.{leb-true, leb-false, lt-ltb, le-ltb}
use Rattle.std.specs.Prelude.{Result}
use Rattle.std.specs.Result.{IsErrAnd}
use lib.Dec.{leb, ltb}
use lib.ListN.{length}
use Rattle.hash.specs.Shake.{shake_from}
use Rattle.kindi.specs.Answers.{refuse_if, shake_bytes}
use Rattle.kindi.specs.Calls.{number, output}
use Rattle.calls.specs.declared.refusal.Refusal.{Refusal}
use Rattle.calls.specs.declared.refusal.Refusal.TheVariants.{PastLimit}
use Rattle.calls.specs.Exits.{ShakeExit}
use Rattle.calls.specs.Refusals.{number_of, status_of}
use Rattle.calls.proofs.Refused.{refused_status}

module _ {rate : ℕ} {input : List ℕ} {place : ℕ} {out : List ℕ} {within : Bool} (is : within ≡ leb (place + length out) 1048576) where
  -- Past the limit: 15, and the output as it was.
  pub shake_refused : {A : Type 0} (r : Result A Refusal) {e : Refusal} → (within ≡ false) × (e ≡ PastLimit) → IsErrAnd r (λ f. f ≡ e)
      → ShakeExit rate input place out (status_of r) out
  unfolding shake_bytes refuse_if number output
  shake_refused r {e} bad passed =
      let test : ltb 1048576 (place + length out) ≡ true = lt-ltb _ _ (leb-false _ _ (sym is ∙ bad.0)) in
      let status : status_of r ≡ 15 = refused_status r e passed ∙ ap number_of bad.1 in
      record { returned = rw test status; bytes = rw test }

  -- Within it: 0, and the bytes from the place on.
  pub shake_exit : {out' : List ℕ} → within ≡ true → out' ≡ shake_from rate input place (length out) → ShakeExit rate input place out 0 out'
  unfolding shake_bytes refuse_if number output
  shake_exit good bytes =
      let test : ltb 1048576 (place + length out) ≡ false = le-ltb _ _ (leb-true _ _ (sym is ∙ good)) in
      record { returned = rw test; bytes = bytes ∙ rw test }

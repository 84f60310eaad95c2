-- `decryption::recover::recover_coins` meets its contract.
-- Assumes nothing.
use mathlib.Core.Path.{◌≡◌, sym, ap, ◌∙◌}
use mathlib.Core.List.{List}
use Prim.Native.Nat.{ℕ, ◌≤◌}
use native.Mathlib.Omega.{arith}
use lib.ListN.{length, take, length-take, length-append}
use lib.Seq.{take_at}
use Rattle.hash.specs.Shake.{shake}
use Rattle.kindi.specs.declared.Params.{Params}
use Rattle.kindi.specs.Params.{width, length_of}
use Rattle.decryption.specs.Inputs.{RecoverRoom}
use Rattle.decryption.specs.Opened.{coins_from}
use Rattle.decryption.proofs.Value.{secret_fits, coins_recovered}
use Rattle.decryption.proofs.recover.recover_coins.Goals as goal

-- The bytes of the secret vector, which lie within the work area.
record Secret (P : Params) (work : List ℕ) (need : ℕ) : Type 0 where
  need_is : need ≡ length_of P P.l (width P)
  fits : need ≤ length work
  part_long : length (take need work) ≡ need

secret : {P : Params} {ct coins work : List ℕ} {need w : ℕ} → RecoverRoom P ct coins work → need ≡ length_of P P.l w → w ≡ width P
    → Secret P work need
secret {P} {work = work} {need = need} room e is =
    let need_is : need ≡ length_of P P.l (width P) = e ∙ ap (length_of P P.l) is in
    let fits : need ≤ length work = omega (arith, need_is, secret_fits P, room.work_long) in
    record { need_is = need_is; fits = fits; part_long = simp length-take (omega (arith, fits)) }

pub slice_bounds-shake-end : goal.slice_bounds-shake-end
slice_bounds-shake-end c = (secret c.requires c.length_of-need.ensures.0 c.width.ensures).fits

pub slice_bounds-shake-end-2 : goal.slice_bounds-shake-end-2
slice_bounds-shake-end-2 c = sym (secret c.requires c.length_of-need.ensures.0 c.width.ensures).part_long

pub slice_bounds-coins_from-end : goal.slice_bounds-coins_from-end
slice_bounds-coins_from-end c =
    let s = secret c.requires c.length_of-need.ensures.0 c.width.ensures in
    simp length-append (omega (arith, c.shake.auto.output, s.part_long))

pub slice_bounds-coins_from-end-2 : goal.slice_bounds-coins_from-end-2
slice_bounds-coins_from-end-2 c =
    let s = secret c.requires c.length_of-need.ensures.0 c.width.ensures in
    let long = c.shake.auto.output ∙ s.part_long in
    sym (ap length (take_at _ _ _ long) ∙ long)

pub coins_from-requires : goal.coins_from-requires
coins_from-requires c =
    let pre = c.requires in
    let W = pre.well in
    let s = secret pre c.length_of-need.ensures.0 c.width.ensures in
    let long = c.shake.auto.output ∙ s.part_long in
    record {
      room = record {
        well = W;
        cipher_long = pre.cipher_long;
        secret_long = simp length-take (omega (arith, W.vector));
        vector_long = simp length-take (omega (arith, W.vector));
        value_long = simp length-take (omega (arith, W.short));
        sum = simp length-take (omega (arith, W.short));
      };
      secret_there = rw (take_at c.shake.new.output _ c.length_of-need.result long) (omega (arith, long, s.need_is));
      coins_long = pre.coins_long;
    }

pub returns : goal.returns
returns c =
    let a = c.args in
    let p = a.p in
    let s = secret c.requires c.length_of-need.ensures.0 c.width.ensures in
    let long = c.shake.auto.output ∙ s.part_long in
    c.coins_from.ensures
    ∙ ap (λ (l : List ℕ). coins_from p l a.ct.now)
    (take_at _ _ _ long ∙ c.shake.ensures ∙ ap (shake p.rate a.gamma.now) (s.part_long ∙ s.need_is))
    ∙ coins_recovered p c.requires.well a.gamma.now a.ct.now

-- `calls::kem::shake_joined` meets its contract: a sponge that takes two strings takes their join.
-- Assumes nothing.
use mathlib.Core.Path.{◌≡◌, sym, ◌∙◌, subst}
use mathlib.Core.List.{List, ◌++◌}
use Prim.Native.Nat.{ℕ, ◌≤◌, ◌<◌}
use native.Mathlib.Omega.{arith}
use Rattle.hash.proofs.Laws.{squeezed-shake}
use Rattle.hash.proofs.Steps.{sound_fresh, sound_absorbed, sound_finished, absorbed-append}
use Rattle.hash.specs.Shake.{shake}
use Rattle.hash.specs.Stream.{Sound, absorbed, finished, squeezed, fresh}
use Rattle.hash.specs.declared.sponge.Sponge.{Sponge}
use Rattle.calls.proofs.kem.shake_joined.Goals as goal

-- What a sponge gives after two strings is SHAKE of their join.
squeezed_joined : (r : ℕ) (first second : List ℕ) (n : ℕ) {s begun taken complete : Sponge} {output : List ℕ} → 0 < r → r ≤ 200
    → s ≡ fresh r → begun ≡ absorbed s first → taken ≡ absorbed begun second → complete ≡ finished taken → output ≡ squeezed complete n
    → output ≡ shake r (first ++ second) n
squeezed_joined r first second n pos fits e1 e2 e3 e4 e5 = e5 ∙ rw (e4, e3, e2, e1, absorbed-append) (squeezed-shake r (first ++ second) n pos fits)

pub absorb-begun-requires : goal.absorb-begun-requires
absorb-begun-requires c =
    let sound_new : Sound c.new.result =
    subst Sound (sym c.new.ensures) (sound_fresh _ (omega arith) (omega arith)) in
    sound_new

pub absorb-taken-requires : goal.absorb-taken-requires
absorb-taken-requires c =
    let sound_new : Sound c.new.result =
    subst Sound (sym c.new.ensures) (sound_fresh _ (omega arith) (omega arith)) in
    let sound_begun : Sound c.absorb-begun.result =
    subst Sound (sym c.absorb-begun.ensures) (sound_absorbed _ _ (sound_new)) in
    sound_begun

pub finish-complete-requires : goal.finish-complete-requires
finish-complete-requires c =
    let sound_new : Sound c.new.result =
    subst Sound (sym c.new.ensures) (sound_fresh _ (omega arith) (omega arith)) in
    let sound_begun : Sound c.absorb-begun.result =
    subst Sound (sym c.absorb-begun.ensures) (sound_absorbed _ _ (sound_new)) in
    let sound_taken : Sound c.absorb-taken.result =
    subst Sound (sym c.absorb-taken.ensures) (sound_absorbed _ _ (sound_begun)) in
    sound_taken

pub squeeze-requires : goal.squeeze-requires
squeeze-requires c =
    let sound_new : Sound c.new.result =
    subst Sound (sym c.new.ensures) (sound_fresh _ (omega arith) (omega arith)) in
    let sound_begun : Sound c.absorb-begun.result =
    subst Sound (sym c.absorb-begun.ensures) (sound_absorbed _ _ (sound_new)) in
    let sound_taken : Sound c.absorb-taken.result =
    subst Sound (sym c.absorb-taken.ensures) (sound_absorbed _ _ (sound_begun)) in
    let sound_complete : Sound c.finish-complete.result =
    subst Sound (sym c.finish-complete.ensures) (sound_finished _ (sound_taken)) in
    sound_complete

pub returns : goal.returns
returns c =
    squeezed_joined _ _ _ _ c.requires.0 c.requires.1 c.new.ensures c.absorb-begun.ensures c.absorb-taken.ensures
    c.finish-complete.ensures c.squeeze.ensures.bytes

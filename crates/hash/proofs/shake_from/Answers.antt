-- `hash::shake_from` meets its contract: a new sponge that takes the input and passes over the bytes before the place goes on
-- with SHAKE of the input from there (`Laws`).
-- Assumes nothing.
use mathlib.Core.Path.{◌≡◌, sym, ◌∙◌, subst}
use mathlib.Core.List.{List}
use Prim.Native.Nat.{ℕ, ◌≤◌, ◌<◌}
use Rattle.hash.proofs.Laws.{squeezed-from}
use Rattle.hash.proofs.Steps.{sound_fresh, sound_absorbed, sound_finished, sound_advanced}
use Rattle.hash.specs.Shake.{shake_from}
use Rattle.hash.specs.Stream.{Sound, fresh, absorbed, finished, squeezed, advanced}
use Rattle.hash.specs.declared.sponge.Sponge.{Sponge}
use Rattle.hash.proofs.shake_from.Goals as goal

-- Each sponge on the way is sound, whichever is skipped on.
sound_new : {r : ℕ} {s : Sponge} → 0 < r → r ≤ 200 → s ≡ fresh r → Sound s
sound_new pos fits e = subst Sound (sym e) (sound_fresh _ pos fits)

sound_taken : {r : ℕ} (m : List ℕ) {s taken : Sponge} → 0 < r → r ≤ 200 → s ≡ fresh r → taken ≡ absorbed s m → Sound taken
sound_taken m pos fits e1 e2 = subst Sound (sym e2) (sound_absorbed _ _ (sound_new pos fits e1))

sound_complete : {r : ℕ} (m : List ℕ) {s taken complete : Sponge} → 0 < r → r ≤ 200 → s ≡ fresh r → taken ≡ absorbed s m
    → complete ≡ finished taken → Sound complete
sound_complete m pos fits e1 e2 e3 = subst Sound (sym e3) (sound_finished _ (sound_taken m pos fits e1 e2))

-- What a sponge gives after a string and after i bytes of output is SHAKE of the string from place i on.
squeezed_there : (r : ℕ) (m : List ℕ) (i n : ℕ) {s taken complete there : Sponge} {output : List ℕ} → 0 < r → r ≤ 200
    → s ≡ fresh r → taken ≡ absorbed s m → complete ≡ finished taken → there ≡ advanced complete i → output ≡ squeezed there n
    → output ≡ shake_from r m i n
squeezed_there r m i n pos fits e1 e2 e3 e4 e5 = e5 ∙ rw (e4, e3, e2, e1) (squeezed-from r m i n pos fits)

pub absorb-taken-requires : goal.absorb-taken-requires
absorb-taken-requires c = sound_new c.requires.0 c.requires.1 c.new.ensures

pub finish-complete-requires : goal.finish-complete-requires
finish-complete-requires c = sound_taken _ c.requires.0 c.requires.1 c.new.ensures c.absorb-taken.ensures

pub skip-there-requires : goal.skip-there-requires
skip-there-requires c =
    sound_complete _ c.requires.0 c.requires.1 c.new.ensures c.absorb-taken.ensures c.finish-complete.ensures

pub squeeze-requires : goal.squeeze-requires
squeeze-requires c =
    subst Sound (sym c.skip-there.ensures)
    (sound_advanced _ _
    (sound_complete _ c.requires.0 c.requires.1 c.new.ensures c.absorb-taken.ensures c.finish-complete.ensures))

pub returns : goal.returns
returns c =
    squeezed_there _ _ _ _ c.requires.0 c.requires.1 c.new.ensures c.absorb-taken.ensures c.finish-complete.ensures
    c.skip-there.ensures c.squeeze.ensures.bytes

-- `matrix::begin` meets its contract.
-- Assumes nothing.
use mathlib.Core.Path.{sym, ap, ◌∙◌, subst}
use Rattle.hash.specs.Stream.{Sound, absorbed, finished}
use Rattle.hash.specs.declared.sponge.Sponge.{Sponge}
use Rattle.hash.proofs.Steps.{sound_fresh, sound_absorbed}
use Rattle.matrix.proofs.Walking.{stream_start}
use Rattle.matrix.proofs.begin.Goals as goal

pub absorb-taken-requires : goal.absorb-taken-requires
absorb-taken-requires c =
    let sound_new : Sound c.new.result =
    subst Sound (sym c.new.ensures) (sound_fresh _ c.requires.some_rate c.requires.rate_fits) in
    sound_new

pub finish-requires : goal.finish-requires
finish-requires c =
    let sound_new : Sound c.new.result =
    subst Sound (sym c.new.ensures) (sound_fresh _ c.requires.some_rate c.requires.rate_fits) in
    subst Sound (sym c.absorb-taken.ensures) (sound_absorbed _ _ (sound_new))

pub returns : goal.returns
returns c =
    c.finish.ensures
    ∙ ap finished (c.absorb-taken.ensures ∙ ap (λ (s : Sponge). absorbed s c.args.mu.now) c.new.ensures)
    ∙ stream_start c.args.p c.args.mu.now

-- `hash::sponge::Sponge::permute` meets its contract: the sponge of the permuted string. Assumes nothing.
use mathlib.Core.Path.{ap}
use mathlib.Core.List.{List}
use Prim.Native.Nat.{ℕ}
use Rattle.hash.proofs.Steps.{sponge}
use Rattle.hash.specs.Stream.{permuted}
use Rattle.hash.proofs.sponge.Sponge.permute.Goals as goal

pub returns : goal.returns
unfolding permuted
returns c = ap (λ (l : List ℕ). sponge l 0 c.args.self.rate) c.permute-next.ensures

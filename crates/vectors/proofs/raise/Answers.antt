-- `vectors::raise` meets its contract: the coefficients before x are multiplied.
-- Assumes nothing.
use mathlib.Core.List.{map}
use mathlib.Core.Path.{◌≡◌, ◌∙◌}
use Prim.Native.Nat.{◌*◌, ◌%◌, ◌^◌}
use Rattle.std.proofs.lemmas.Grind.{common_steps}
use native.Mathlib.Omega.{arith}
use Rattle.vectors.proofs.Mapping.{mapped_more, raised_is}
use Rattle.vectors.proofs.raise.Goals as goal

pub loop-x-preserved : goal.loop-x-preserved
loop-x-preserved c = mapped_more (λ x. x * 2 ^ c.args.t % 65536) _ _ _ (omega arith) c.loop-x.auto.xs c.loop-x.invariant

pub returns : goal.returns
returns c =
    let all : c.loop-x.xs ≡ map (λ x. x * 2 ^ c.args.t % 65536) c.args.xs.now = grind (arith, common_steps) in
    all ∙ raised_is c.args.t c.args.xs.now

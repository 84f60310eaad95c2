-- `vectors::lengths::length_of` meets its contract.
-- Assumes nothing.
use Rattle.vectors.proofs.Amounts.{part_bound, length_bound}
use Rattle.kindi.specs.Params.{length_of}
use native.Mathlib.Omega.{arith}
use mathlib.Core.Path.{refl}
use Rattle.vectors.proofs.lengths.length_of.Goals as goal

pub overflow_mul-result : goal.overflow_mul-result
overflow_mul-result c =
    let b = part_bound c.args.p c.requires.0 c.requires.2 in
    omega (arith, b)

pub overflow_mul-result-2 : goal.overflow_mul-result-2
unfolding length_of
overflow_mul-result-2 c =
    let b = length_bound c.args.p c.requires.0 c.requires.1 c.requires.2 in
    omega (arith, b)

pub returns : goal.returns
unfolding length_of
returns c = (refl, length_bound c.args.p c.requires.0 c.requires.1 c.requires.2)

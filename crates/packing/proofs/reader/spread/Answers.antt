-- `packing::reader::spread` meets its contract: the pairs first, then the two digits of each.
-- Assumes nothing.
use mathlib.Core.Path.{◌∙◌}
use native.Mathlib.Omega.{arith}
use Rattle.packing.proofs.Spreading.{spread_is}
use Rattle.packing.proofs.reader.spread.Goals as goal

pub returns : goal.returns
returns c =
    let a = c.args in
    c.singles.ensures ∙ spread_is a.w a.x (omega arith) c.pairs.ensures

-- `lines::put_end` meets its contract.
-- Assumes nothing.
use native.Mathlib.Omega.{arith}
use Rattle.lines.proofs.Texts.{decimal_fits, written_end}
use Rattle.lines.proofs.put_end.Goals as goal

pub put_decimal-n-requires : goal.put_decimal-n-requires
put_decimal-n-requires c = omega (arith, decimal_fits c.args.number (omega arith))

pub put-requires : goal.put-requires
put-requires c = omega (arith, decimal_fits c.args.number (omega arith))

pub returns : goal.returns
returns c = written_end _ c.put-n.ensures c.put_decimal-n.ensures c.put.ensures

-- `lines::put_number` meets its contract.
-- Assumes nothing.
use native.Mathlib.Omega.{arith}
use Rattle.lines.proofs.Texts.{written_then, decimal_fits}
use Rattle.lines.proofs.put_number.Goals as goal

pub put_decimal-next-requires : goal.put_decimal-next-requires
put_decimal-next-requires c = omega (arith, decimal_fits c.args.v (omega arith))

pub put-requires : goal.put-requires
put-requires c = omega (arith, decimal_fits c.args.v (omega arith))

pub returns-clause-written : goal.returns-clause-written
returns-clause-written c = written_then c.put_decimal-next.ensures c.put.ensures

pub returns-clause-within : goal.returns-clause-within
returns-clause-within c = omega (arith, decimal_fits c.args.v (omega arith))

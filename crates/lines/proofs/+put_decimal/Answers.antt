-- `lines::put_decimal` meets its contract: the number falls to its tenth at each call of itself.
-- Assumes nothing.
use mathlib.Core.Path.{sym, ap}
use native.Mathlib.Omega.{arith}
use lib.ListN.{length}
use Rattle.lines.proofs.Texts.{written_as, written_then, decimal-one, decimal_more, tenth_long}
use Rattle.lines.proofs.+put_decimal.Goals as goal

pub put-requires : goal.put-requires
put-requires t c = omega (arith, ap length (decimal-one _ c.if-v-lt10.true))

pub returns-then-v-lt10 : goal.returns-then-v-lt10
returns-then-v-lt10 t c = written_as (sym (decimal-one _ c.if-v-lt10.true)) c.put.ensures

pub put_decimal-next-requires : goal.put_decimal-next-requires
put_decimal-next-requires t c =
    let shorter = tenth_long _ c.if-v-lt10.false in
    (omega arith, omega arith)

pub put-requires-2 : goal.put-requires-2
put-requires-2 t c = omega (arith, tenth_long _ c.if-v-lt10.false)

pub returns : goal.returns
returns t c =
    written_as (sym (decimal_more _ c.if-v-lt10.false)) (written_then c.put_decimal-next.ensures c.put-2.ensures)

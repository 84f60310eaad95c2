-- `lines::put_decimal` meets its contract: the number falls to its tenth at each call of itself.
-- Assumes nothing.
use Rattle.lines.proofs.+put_decimal.Given as goal

abbrev pub decreases-put_decimal : goal.decreases-put_decimal
decreases-put_decimal l = l.v

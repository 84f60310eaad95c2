-- `noise::agreement::agree` meets its contract: the polynomials before i are compared.
-- Assumes nothing.
use Prim.Native.Nat.{◌*◌}
use Rattle.noise.proofs.Agreeing.{Compared}
use Rattle.noise.proofs.agreement.agree.Given as goal

abbrev pub invariant-loop-i : goal.invariant-loop-i
invariant-loop-i l = Compared l.p l.b l.stored (l.i * l.part) l.i l.all

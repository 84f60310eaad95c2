-- `ring::poly::sum` meets its contract: the sum modulo 2^16.
-- Assumes nothing.
use mathlib.Core.Path.{sym}
use Prim.Native.Nat.{◌+◌}
use Rattle.ring.proofs.Modular.{residue-pos}
use Rattle.ring.proofs.poly.sum.Goals as goal

pub returns : goal.returns
returns c = sym (residue-pos 65536 (c.args.a + c.args.b))

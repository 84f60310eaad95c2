-- `ring::poly::difference` meets its contract: adding the complement subtracts modulo 2^16.
-- Assumes nothing.
use Prim.Native.Nat.{◌-◌, suc-le-suc, zero-le}
use native.Mathlib.Omega.{arith}
use lib.IntN.{pos, neg_ℤ}
use Rattle.ring.proofs.Modular.{residue-plus_nat, cong_complement}
use Rattle.ring.proofs.poly.difference.Goals as goal

pub returns : goal.returns
returns c =
    residue-plus_nat {q = 65536} (suc-le-suc zero-le) c.args.a (65536 - c.args.b) (neg_ℤ (pos c.args.b)) (cong_complement (omega arith))

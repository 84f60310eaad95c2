-- `keccak::strings::xor_into` meets its contract: after i turns the first i bytes of src are added.
-- Assumes nothing.
use mathlib.Core.Path.{sym}
use native.Mathlib.Numerals.{add-one}
use native.Mathlib.Omega.{arith}
use Rattle.keccak.proofs.Parts.{xor_into_nothing, xor_into_more}
use Rattle.keccak.specs.Strings.{xor_into}
use Rattle.keccak.proofs.Loops.{carried_list}
use Rattle.keccak.proofs.strings.xor_into.Goals as goal

pub loop-i-init : goal.loop-i-init
loop-i-init c = record { within = omega arith; is = sym (xor_into_nothing _) }

pub loop-i-preserved : goal.loop-i-preserved
loop-i-preserved c =
    record {
      within = omega arith;
      is = rw (add-one, xor_into_more c.args.dst.now c.args.src.now c.loop-i.i (omega arith) (omega arith), c.loop-i.invariant.is);
    }

pub returns : goal.returns
returns c = carried_list c.args.src.now (xor_into c.args.dst.now) c.loop-i.invariant (omega arith)

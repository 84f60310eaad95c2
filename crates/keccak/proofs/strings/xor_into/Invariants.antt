-- `keccak::strings::xor_into` meets its contract: after i turns the first i bytes of src are added.
-- Assumes nothing.
use lib.ListN.{length, take}
use Rattle.keccak.specs.Strings.{xor_into}
use Rattle.keccak.proofs.Loops.{Carried}
use Rattle.keccak.proofs.strings.xor_into.Given as goal

abbrev pub invariant-loop-i : goal.invariant-loop-i
invariant-loop-i l = Carried (length l.src) (λ k. xor_into l.initial.dst (take k l.src)) l.i l.dst

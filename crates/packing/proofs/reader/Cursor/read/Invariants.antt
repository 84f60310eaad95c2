-- `packing::reader::Cursor::read` meets its contract: after each turn eight coefficients more are read.
-- Assumes nothing.
use Prim.Native.Nat.{◌-◌}
use lib.ListN.{length}
use Rattle.packing.proofs.Reading.{Eights}
use Rattle.packing.proofs.reader.Cursor.read.Given as goal

abbrev pub invariant-loop-dst : goal.invariant-loop-dst
invariant-loop-dst l = Eights l.w l.src l.initial.c l.initial.dst l.end l.i l.c l.dst

abbrev pub decreases-loop-dst : goal.decreases-loop-dst
decreases-loop-dst l = length l.initial.dst - l.i

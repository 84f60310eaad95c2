-- `keccak::strings::copy` meets its contract: what stands before i is copied.
-- Assumes nothing.
use mathlib.Core.Path.{sym, ap, ◌∙◌}
use mathlib.Core.List.{List, [], ◌∷◌, ◌++◌}
use Prim.Native.Nat.{ℕ}
use native.Mathlib.Numerals.{add-one}
use native.Mathlib.Omega.{arith}
use lib.ListN.{get_or, length-set}
use lib.Seq.{take-suc, take-suc-set, take_all}
use Rattle.keccak.proofs.strings.copy.Goals as goal

pub loop-i-preserved : goal.loop-i-preserved
loop-i-preserved c =
    let h = c.loop-i in
    let src = c.args.src.now in
    record {
      within = omega arith;
      long = length-set h.dst h.i (get_or src h.i 0) ∙ h.invariant.long;
      front =
          rw add-one
          (take-suc-set h.dst h.i (get_or src h.i 0) (omega arith)
          ∙ ap (λ (l : List ℕ). l ++ (get_or src h.i 0 ∷ [])) h.invariant.front
          ∙ sym (take-suc src h.i 0 (omega arith)));
    }

pub returns : goal.returns
returns c =
    sym (take_all c.loop-i.i c.loop-i.dst (omega arith)) ∙ c.loop-i.invariant.front
    ∙ take_all c.loop-i.i c.args.src.now (omega arith)

-- `keccak::rounds::keccak_f` meets its contract: after i turns the state has had the first i rounds, each with the constant of its round from the table.
-- Assumes nothing.
use mathlib.Core.Path.{refl, ap₂, ◌∙◌}
use native.Mathlib.Numerals.{add-one}
use native.Mathlib.Omega.{arith}
use Rattle.keccak.proofs.Tables.{constant_at}
use Rattle.keccak.specs.Keccak.{round, rounds, keccak_f}
use Rattle.keccak.proofs.Loops.{carried_all}
use Rattle.keccak.proofs.rounds.keccak_f.Goals as goal

pub loop-constant-init : goal.loop-constant-init
unfolding rounds
loop-constant-init c = record { within = omega arith; is = refl }

pub loop-constant-preserved : goal.loop-constant-preserved
unfolding rounds
loop-constant-preserved c =
    let table = c.iota_constants-constant-items in
    record {
      within = omega arith;
      is =
          rw add-one
          (c.round-t.ensures
          ∙ ap₂ round (constant_at table.result c.loop-constant.constant-index table.ensures (omega arith)) c.loop-constant.invariant.is);
    }

pub returns : goal.returns
unfolding keccak_f
returns c = carried_all c.loop-constant.invariant (omega arith)

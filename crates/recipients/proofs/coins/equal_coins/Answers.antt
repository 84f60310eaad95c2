-- `recipients::coins::equal_coins` meets its contract: after j turns it is known of the first j coins whether two of them are equal.
-- Assumes nothing.
use mathlib.Core.Path.{refl, ap₂, ◌∙◌}
use mathlib.Core.List.{List}
use Prim.Native.Nat.{ℕ, ◌+◌, ◌*◌, ◌≤◌}
use native.Mathlib.Omega.{arith}
use lib.ListN.{length}
use Rattle.keccak.specs.Lists.{tabulate}
use Rattle.kindi.specs.Answers.{same, some, part_at, coins_at, equal_coins}
use Rattle.vectors.proofs.Amounts.{part_length}
use Rattle.recipients.proofs.Places.{gathering_begun, gathering_more, gathering_all, part_fits, place_part}
use Rattle.recipients.proofs.coins.equal_coins.Goals as goal

pub loop-j-init : goal.loop-j-init
loop-j-init c = gathering_begun

pub is_among-found-requires : goal.is_among-found-requires
is_among-found-requires c =
    let j = c.loop-j.j in
    let coins = c.args.p.coins in
    let list = c.args.list.now in
    let there : j * coins + coins ≤ length list = part_fits coins list (omega (arith, c.requires)) c.loop-j-test.true in
    rw (part_length (j * coins) coins list there) (omega (arith, there))

pub loop-j-preserved : goal.loop-j-preserved
loop-j-preserved c =
    let j = c.loop-j.j in
    let coins = c.args.p.coins in
    let list = c.args.list.now in
    let there : j * coins + coins ≤ length list = part_fits coins list (omega (arith, c.requires)) c.loop-j-test.true in
    gathering_more c.loop-j.invariant (omega arith)
    (c.is_among-found.ensures
    ∙ ap₂ (λ (n : ℕ) (one : List ℕ). some (tabulate j (λ i. same (part_at n list i) one)))
    (part_length (j * coins) coins list there) (place_part j refl refl list))

pub returns : goal.returns
unfolding equal_coins coins_at
returns c = gathering_all c.loop-j.invariant (omega arith)

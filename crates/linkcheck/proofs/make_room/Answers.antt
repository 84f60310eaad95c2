-- `linkcheck::make_room` meets its contract.
-- Assumes nothing.
use native.Mathlib.Omega.{arith}
use Rattle.std.proofs.lemmas.Result.{IfOk-weaker}
use Rattle.linkcheck.proofs.Laws.{goes_on, goes_on_as_it_did, no_room, of_error, room_made}
use Rattle.linkcheck.proofs.make_room.Goals as goal

pub returns-clause-ok : goal.returns-clause-ok
returns-clause-ok g c = IfOk-weaker _ _ _ (λ r e. room_made c.args.out.now (omega arith) (omega arith) e) c.flush.ensures

pub returns-then-left-ge-LINE-clause-ended : goal.returns-then-left-ge-LINE-clause-ended
returns-then-left-ge-LINE-clause-ended g c = goes_on_as_it_did c.args.s c.args.out.now (omega arith) (omega arith)

pub returns-clause-ended : goal.returns-clause-ended
returns-clause-ended g c =
    goes_on c.flush.result c.args.s c.args.out.now (no_room c.args.s c.args.out.now (omega arith) (omega arith)) c.flush.ensures

pub returns-clause-err : goal.returns-clause-err
returns-clause-err g c = of_error c.flush.result (no_room c.args.s c.args.out.now (omega arith) (omega arith))

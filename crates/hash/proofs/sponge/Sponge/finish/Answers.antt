-- `hash::sponge::Sponge::finish` meets its contract: the two bytes that it adds are the padding (`Finish`).
-- Assumes nothing.
use native.Mathlib.Omega.{arith}
use Rattle.hash.proofs.Finish.{finish_is}
use Rattle.hash.proofs.Steps.{Ready, is_ready_as}
use Rattle.hash.proofs.sponge.Sponge.finish.Goals as goal
use Rattle.hash.proofs.sponge.Sponge.finish.Goals.{After-ready-t}

-- The place and the rate of the ready sponge are within the string.
ready_here : (c : After-ready-t) →
    Ready c.args.self c.ready-t.result
ready_here c = is_ready_as _ _ c.requires c.ready-t.ensures

pub overflow_sub-bytes : goal.overflow_sub-bytes
overflow_sub-bytes c = omega (arith, ready_here (search))

pub bounds-bytes-t : goal.bounds-bytes-t
bounds-bytes-t c = omega (arith, ready_here (search))

pub bounds-bytes-t-2 : goal.bounds-bytes-t-2
bounds-bytes-t-2 c = omega (arith, ready_here (search))

pub bounds-bytes-t-3 : goal.bounds-bytes-t-3
bounds-bytes-t-3 c = omega (arith, ready_here (search))

pub bounds-bytes-t-4 : goal.bounds-bytes-t-4
bounds-bytes-t-4 c = omega (arith, ready_here (search))

pub returns : goal.returns
returns c = finish_is c.args.self c.ready-t.result c.requires c.ready-t.ensures

-- `cipher_terms::add_public` meets its contract.
-- Assumes nothing.
use lib.ListN.{length}
use native.Mathlib.Omega.{arith}
use mathlib.Core.Path.{ap, ◌∙◌}
use Rattle.vectors.proofs.Congruent.{length-vector}
use Rattle.vectors.proofs.Joining.{rest_long}
use Rattle.cipher_terms.proofs.Masks.{there_long}
use Rattle.cipher_terms.proofs.Public.{public_exit}
use Rattle.cipher_terms.proofs.add_public.Goals as goal

pub slice_bounds-ephemeral-count : goal.slice_bounds-ephemeral-count
slice_bounds-ephemeral-count c = omega (arith, there_long c.requires.stream_there)

pub slice_bounds-ephemeral-start : goal.slice_bounds-ephemeral-start
slice_bounds-ephemeral-start c = omega (arith, there_long c.requires.stream_there)

pub slice_bounds-ephemeral-count-2 : goal.slice_bounds-ephemeral-count-2
slice_bounds-ephemeral-count-2 c = omega (arith, there_long c.requires.stream_there)

pub slice_bounds-ephemeral-start-2 : goal.slice_bounds-ephemeral-start-2
slice_bounds-ephemeral-start-2 c = omega (arith, there_long c.requires.stream_there)

pub ephemeral-requires : goal.ephemeral-requires
ephemeral-requires c =
    let room = c.requires in
    let long = there_long room.stream_there in
    let stream = c.args.stream.now in
    record {
      well = room.well;
      coins_long = room.coins_long;
      high_there = rest_long _ stream (omega (arith, long));
      rest_there = rest_long _ stream (omega (arith, long));
      high_long = room.low_long;
      secret_long = room.secret_long;
    }

pub add_products-requires : goal.add_products-requires
add_products-requires c =
    let room = c.requires in
    record {
      well = room.well;
      stored_there = room.stored_there;
      low_there = omega (arith, there_long room.stream_there);
      secret_long = ap length c.ephemeral.ensures ∙ length-vector _ _ _;
      list_long = room.list_long;
      low_long = c.ephemeral.auto.h ∙ room.low_long;
      sum = room.sum;
    }

pub returns : goal.returns
returns c = search public_exit

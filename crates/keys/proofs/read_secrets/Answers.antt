-- `keys::read_secrets` meets its contract: r, and behind its bytes r'.
-- Assumes nothing.
use Rattle.keys.proofs.Made.{errors_inside, secret_read, errors_read}
use Rattle.vectors.proofs.Amounts.{width_bound, reads, reads_rest}
use Rattle.kindi.specs.Params.{length_of}
use lib.ListN.{length}
use native.Mathlib.Omega.{arith}
use Prim.Native.Nat.{◌+◌, ◌≤◌}
use Rattle.keys.proofs.read_secrets.Goals as goal

pub small-requires : goal.small-requires
small-requires c =
    let inside : c.length_of-at.result + length_of c.args.p c.args.p.l c.width-w.result ≤ length c.args.stream.now =
    errors_inside c.args.p c.args.stream.now c.requires.stream_long c.width-w.ensures c.length_of-at.ensures.0 in
    let p = c.args.p in
    let well = c.requires.well in
    (rw c.width-w.ensures (width_bound p well), reads p well p.l c.width-w.result c.requires.secret_long (omega (arith, inside)))

pub slice_bounds-small-count : goal.slice_bounds-small-count
slice_bounds-small-count c =
    let inside : c.length_of-at.result + length_of c.args.p c.args.p.l c.width-w.result ≤ length c.args.stream.now =
    errors_inside c.args.p c.args.stream.now c.requires.stream_long c.width-w.ensures c.length_of-at.ensures.0 in
    omega (arith, inside)

pub slice_bounds-small-start : goal.slice_bounds-small-start
slice_bounds-small-start c =
    let inside : c.length_of-at.result + length_of c.args.p c.args.p.l c.width-w.result ≤ length c.args.stream.now =
    errors_inside c.args.p c.args.stream.now c.requires.stream_long c.width-w.ensures c.length_of-at.ensures.0 in
    omega (arith, inside)

pub small-requires-2 : goal.small-requires-2
small-requires-2 c =
    let inside : c.length_of-at.result + length_of c.args.p c.args.p.l c.width-w.result ≤ length c.args.stream.now =
    errors_inside c.args.p c.args.stream.now c.requires.stream_long c.width-w.ensures c.length_of-at.ensures.0 in
    let p = c.args.p in
    let well = c.requires.well in (
      rw c.width-w.ensures (width_bound p well),
      reads_rest p well p.l c.width-w.result c.length_of-at.result c.args.stream.now c.requires.sums_long (inside),
    )

pub returns : goal.returns
returns c =
    let p = c.args.p in
    let stream = c.args.stream.now in
    let width = c.width-w.ensures in (
      secret_read p stream width c.requires.secret_long c.small.ensures,
      errors_read p c.requires.well stream (λ i. (c.type_inv.stream i).fits) c.length_of-at.result width
          c.requires.sums_long c.length_of-at.ensures.0 c.small-2.ensures,
    )

use Rattle.std.proofs.Common.{arith, []}
use Rattle.access_units.specs.Acceptors.{fed, no_past}
use Rattle.first_frame.proofs.Opened.{asks, begins, ends}
use Rattle.first_frame.proofs.stream.opened.Goals as goal

pub feed-requires-2 : goal.feed-requires-2
feed-requires-2 c =
    let bytes = c.args.bytes.now in
    let few = begins bytes (omega (arith, c.if-count-gt-MOST_BYTES.false)) in
    (fed no_past bytes, c.in_ok-feed.ensures.fed no_past c.new-acceptor.ensures few, ends bytes (omega (arith, c.if-count-eq0.false)) (omega (arith, c.if-count-gt-MOST_BYTES.false)))

pub returns : goal.returns
returns c =
    let bytes = c.args.bytes.now in
    let few = begins bytes (omega (arith, c.if-count-gt-MOST_BYTES.false)) in
    let once = c.in_ok-feed.ensures.fed no_past c.new-acceptor.ensures few in
    let end = ends bytes (omega (arith, c.if-count-eq0.false)) (omega (arith, c.if-count-gt-MOST_BYTES.false)) in
    (fed (fed no_past bytes) [], c.in_ok-feed-2.ensures.fed (fed no_past bytes) once end, asks bytes)

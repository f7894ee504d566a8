use Rattle.std.proofs.Common.{false, true, arith}
use Rattle.file_rows.proofs.Feeding.{ends, fed_piece}
use Rattle.file_rows.proofs.turns.course_turns.Goals as goal

pub tell-requires : goal.tell-requires
tell-requires c = (
  _,
  (
    false,
    fed_piece _ _ c.args.bytes.now c.loop-from.from c.min.result c.loop-from.invariant.0 (omega (arith, c.min.ensures, c.loop-from-test.true, c.if-piece-lt1.false))
        (omega (arith, c.min.ensures, c.loop-from-test.true)) (omega (arith, c.if-bytes-gt1000000.false)) c.in_ok-feed.ensures.fed,
  ),
)

pub loop-from-preserved : goal.loop-from-preserved
loop-from-preserved c = (
  c.in_ok-tell.ensures _ false
      (fed_piece _ _ c.args.bytes.now c.loop-from.from c.min.result c.loop-from.invariant.0 (omega (arith, c.min.ensures, c.loop-from-test.true, c.if-piece-lt1.false))
      (omega (arith, c.min.ensures, c.loop-from-test.true)) (omega (arith, c.if-bytes-gt1000000.false)) c.in_ok-feed.ensures.fed),
  omega (arith, c.min.ensures, c.loop-from-test.true),
)

pub tell-requires-2 : goal.tell-requires-2
tell-requires-2 c =
    (_, (true, ends _ _ c.loop-from.from c.loop-from.invariant.0 (omega (arith, c.loop-from.invariant.1, c.if-bytes-gt1000000.false)) c.in_ok-feed-2.ensures.fed))

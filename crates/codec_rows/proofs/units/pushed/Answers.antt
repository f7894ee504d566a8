use Rattle.std.proofs.Common.{take, arith}
use Rattle.codec_rows.proofs.Pieces.{byte_on, stands_on}
use Rattle.codec_rows.proofs.units.pushed.Goals as goal

pub loop-byte-preserved : goal.loop-byte-preserved
loop-byte-preserved c =
    let text = c.args.text.now in
    let i = c.loop-byte.byte-index in
    stands_on c.push.new.self _ _ (byte_on text i (omega arith)) (c.push.ensures.stands (take i text) c.loop-byte.invariant)

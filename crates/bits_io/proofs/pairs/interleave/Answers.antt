use Rattle.std.proofs.Common.{arith}
use Rattle.bits_io.proofs.Interleaved.{interleave_more}
use Rattle.bits_io.proofs.pairs.interleave.Goals as goal

pub loop-i-preserved : goal.loop-i-preserved
loop-i-preserved c = interleave_more c.args.first.now c.args.second.now c.loop-i.into c.loop-i.i c.requires.pairs (omega arith) c.loop-i-test.true c.loop-i.invariant

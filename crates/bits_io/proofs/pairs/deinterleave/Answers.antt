use Rattle.std.proofs.Common.{arith}
use Rattle.bits_io.proofs.Interleaved.{deinterleave_more}
use Rattle.bits_io.proofs.pairs.deinterleave.Goals as goal

pub loop-i-preserved : goal.loop-i-preserved
loop-i-preserved c = deinterleave_more c.loop-i.first c.loop-i.second c.args.pairs.now c.loop-i.i (omega arith) (omega arith) (omega arith) c.loop-i.invariant

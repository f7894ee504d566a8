use Rattle.std.proofs.Common.{refl, arith}
use Rattle.cb_maker.proofs.Arrays.{all_drawn, more_drawn, none_drawn}
use Rattle.cb_maker.proofs.intra.samples.Goals as goal

pub loop-i-init : goal.loop-i-init
loop-i-init c = none_drawn _ 384 _ _ refl

pub loop-i-preserved : goal.loop-i-preserved
loop-i-preserved c = more_drawn _ 384 c.loop-i.i c.loop-i.samples _ _ c.loop-i.draws.state _ c.loop-i-test.true c.loop-i.invariant c.draw.ensures.drawn

pub returns : goal.returns
returns c = all_drawn _ 384 c.loop-i.i c.loop-i.samples _ _ (omega arith) c.loop-i.invariant

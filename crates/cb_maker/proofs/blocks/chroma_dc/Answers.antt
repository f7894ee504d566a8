use Rattle.std.proofs.Common.{refl, arith}
use Rattle.cb_maker.proofs.Arrays.{all_drawn, more_drawn, none_drawn}
use Rattle.cb_maker.proofs.blocks.chroma_dc.Goals as goal

pub loop-i-init : goal.loop-i-init
loop-i-init c = none_drawn _ 2 _ _ refl

pub loop-i-preserved : goal.loop-i-preserved
loop-i-preserved c = more_drawn _ 2 c.loop-i.i c.loop-i.chroma_dc _ _ c.loop-i.draws.state _ c.loop-i-test.true c.loop-i.invariant c.dc.ensures

pub returns : goal.returns
returns c = all_drawn _ 2 c.loop-i.i c.loop-i.chroma_dc _ _ (omega arith) c.loop-i.invariant

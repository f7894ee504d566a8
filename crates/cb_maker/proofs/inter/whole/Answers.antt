use Rattle.std.proofs.Common.{refl}
use Rattle.cb_maker.proofs.Drawing.{after}
use Rattle.cb_maker.specs.Kinds.{drawn_whole}
use Rattle.cb_maker.proofs.inter.whole.Goals as goal

pub returns : goal.returns
unfolding drawn_whole
returns c = after _ _ _ _ _ _ c.reference-reference.ensures (after _ _ _ _ _ _ c.vector-delta.ensures (after _ _ _ _ _ _ c.draw-pattern.ensures.drawn refl))

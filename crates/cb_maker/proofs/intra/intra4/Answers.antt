use Rattle.std.proofs.Common.{refl}
use Rattle.cb_maker.proofs.Drawing.{after}
use Rattle.cb_maker.specs.Kinds.{drawn_intra4}
use Rattle.cb_maker.proofs.intra.intra4.Goals as goal

pub returns : goal.returns
unfolding drawn_intra4
returns c = after _ _ _ _ _ _ c.modes-modes.ensures (after _ _ _ _ _ _ c.chroma_mode-chroma.ensures (after _ _ _ _ _ _ c.draw-pattern.ensures.drawn refl))

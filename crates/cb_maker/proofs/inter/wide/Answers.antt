use Rattle.std.proofs.Common.{refl}
use Rattle.cb_maker.proofs.Drawing.{after}
use Rattle.cb_maker.specs.Kinds.{drawn_wide}
use Rattle.cb_maker.proofs.inter.wide.Goals as goal

pub returns : goal.returns
unfolding drawn_wide
returns c = after _ _ _ _ _ _ c.parts-parts.ensures (after _ _ _ _ _ _ c.draw-pattern.ensures.drawn refl)

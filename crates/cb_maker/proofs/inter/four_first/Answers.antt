use Rattle.std.proofs.Common.{refl}
use Rattle.cb_maker.proofs.Drawing.{after}
use Rattle.cb_maker.specs.Kinds.{drawn_four_first}
use Rattle.cb_maker.proofs.inter.four_first.Goals as goal

pub returns : goal.returns
unfolding drawn_four_first
returns c = after _ _ _ _ _ _ c.sub_kinds-kinds.ensures (after _ _ _ _ _ _ c.first_subs-subs.ensures (after _ _ _ _ _ _ c.draw-pattern.ensures.drawn refl))

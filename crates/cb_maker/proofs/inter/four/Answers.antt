use Rattle.std.proofs.Common.{refl}
use Rattle.cb_maker.proofs.Drawing.{after}
use Rattle.cb_maker.specs.Kinds.{drawn_four}
use Rattle.cb_maker.proofs.inter.four.Goals as goal

pub returns : goal.returns
unfolding drawn_four
returns c = after _ _ _ _ _ _ c.sub_kinds-kinds.ensures (after _ _ _ _ _ _ c.references-references.ensures (after _ _ _ _ _ _ c.subs-subs.ensures (after _ _ _ _ _ _ c.draw-pattern.ensures.drawn refl)))

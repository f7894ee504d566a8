use Rattle.std.proofs.Common.{refl}
use Rattle.cb_maker.proofs.Drawing.{after}
use Rattle.cb_maker.specs.Kinds.{drawn_sub}
use Rattle.cb_maker.proofs.inter.sub.Goals as goal

pub returns : goal.returns
unfolding drawn_sub
returns c = after _ _ _ _ _ _ c.deltas-deltas.ensures refl

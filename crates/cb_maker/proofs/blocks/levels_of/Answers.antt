use Rattle.std.proofs.Common.{refl}
use Rattle.cb_maker.proofs.Drawing.{after}
use Rattle.cb_maker.proofs.blocks.levels_of.Goals as goal

pub returns : goal.returns
returns c = after _ _ _ _ _ _ c.block-levels.ensures refl

use Rattle.std.proofs.Common.{refl}
use Rattle.cb_maker.proofs.Drawing.{after}
use Rattle.cb_maker.specs.Blocks.{drawn_chroma}
use Rattle.cb_maker.proofs.blocks.plane.Goals as goal

pub returns : goal.returns
unfolding drawn_chroma
returns c = after _ _ _ _ _ _ c.plane_blocks.ensures refl

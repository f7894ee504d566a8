use Rattle.std.proofs.Common.{refl}
use Rattle.cb_maker.proofs.Drawing.{after}
use Rattle.cb_maker.specs.Kinds.{drawn_intra16}
use Rattle.cb_maker.proofs.intra.intra16.Goals as goal

pub returns : goal.returns
unfolding drawn_intra16
returns c = after _ _ _ _ _ _ c.intra16_mode-mode.ensures (after _ _ _ _ _ _ c.draw-luma.ensures.drawn (after _ _ _ _ _ _ c.draw-chroma_pattern.ensures.drawn (after _ _ _ _ _ _ c.chroma_mode-chroma.ensures refl)))

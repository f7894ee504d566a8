use Rattle.std.proofs.Common.{refl}
use Rattle.cb_maker.proofs.Drawing.{after}
use Rattle.cb_maker.specs.Kinds.{drawn_pcm}
use Rattle.cb_maker.proofs.intra.pcm.Goals as goal

pub returns : goal.returns
unfolding drawn_pcm
returns c = after _ _ _ _ _ _ c.samples.ensures refl

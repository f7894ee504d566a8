use Rattle.cb_maker.specs.Kinds.{drawn_reference}
use Rattle.cb_maker.proofs.inter.reference.Goals as goal

pub returns : goal.returns
unfolding drawn_reference
returns c = c.draw.ensures.drawn

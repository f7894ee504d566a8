use Rattle.cb_tables.specs.ClippingBounds.{tc0_at, strength_1, strength_2, strength_3}
use Rattle.cb_tables.proofs.deblocking.tc0.Goals as goal

pub returns : goal.returns
unfolding tc0_at strength_1 strength_2 strength_3
returns c = c.from.ensures

use Rattle.cb_tables.specs.FilterThresholds.{alpha_row}
use Rattle.cb_tables.proofs.deblocking.alpha.Goals as goal

pub returns : goal.returns
unfolding alpha_row
returns c = c.from.ensures

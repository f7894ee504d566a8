use Rattle.cb_tables.specs.FilterThresholds.{beta_row}
use Rattle.cb_tables.proofs.deblocking.beta.Goals as goal

pub returns : goal.returns
unfolding beta_row
returns c = c.from.ensures

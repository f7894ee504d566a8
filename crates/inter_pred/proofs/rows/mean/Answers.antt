use Rattle.std.proofs.Common.{rules}
use Rattle.inter_pred.specs.Luma.{mean}
use Rattle.inter_pred.proofs.rows.mean.Goals as goal

pub returns : goal.returns
unfolding mean
returns c = search rules

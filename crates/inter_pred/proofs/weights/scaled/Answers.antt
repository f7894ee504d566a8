use Rattle.inter_pred.proofs.Scaled.{not_scaled, scaled_is}
use Rattle.inter_pred.proofs.weights.scaled.Goals as goal

pub returns-then-denom-eq0-clause-value : goal.returns-then-denom-eq0-clause-value
returns-then-denom-eq0-clause-value c = not_scaled c.args.denom c.args.product c.ranges.product c.if-denom-eq0.true

pub returns-else-denom-eq0-clause-value : goal.returns-else-denom-eq0-clause-value
returns-else-denom-eq0-clause-value c = scaled_is c.args.denom c.args.product c.requires.product c.requires.denom c.if-denom-eq0.false

use Rattle.inter_pred.proofs.LaneLemmas.{loaded}
use Rattle.inter_pred.proofs.lanes.load_sums.Goals as goal

pub returns-clause-lanes : goal.returns-clause-lanes
returns-clause-lanes c k lt = (loaded k c.args.at c.args.sums.now lt c.requires).here

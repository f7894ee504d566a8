use Rattle.std.proofs.Common.{ℕ}
use Rattle.inter_pred.proofs.LaneLemmas.{loaded, one}
use Rattle.inter_pred.proofs.lanes.load.Goals as goal

pub returns-clause-lanes : goal.returns-clause-lanes
returns-clause-lanes c k lt = (one (λ (x : ℕ). x) (loaded k c.args.at c.args.samples.now lt c.requires)).here

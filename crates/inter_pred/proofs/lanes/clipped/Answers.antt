use Rattle.std.proofs.Common.{ℕ}
use Rattle.inter_pred.proofs.LaneLemmas.{clipped_fits, clipped_lane, one}
use Rattle.inter_pred.proofs.lanes.clipped.Goals as goal

pub overflow_cast-result : goal.overflow_cast-result
overflow_cast-result c = clipped_fits c.args.lanes c.args.raised c.fits-lanes.0 c.fits-lanes.1 c.ranges.raised.fits

pub returns-clause-lanes : goal.returns-clause-lanes
returns-clause-lanes c k lt = (one (λ (x : ℕ). x) (clipped_lane c.args.lanes c.args.raised k c.fits-lanes.0 c.fits-lanes.1 c.ranges.raised.fits lt)).here

use Rattle.std.proofs.Common.{ℕ, ◌+◌, get_or, arith}
use Rattle.inter_pred.specs.Luma.{mean}
use Rattle.inter_pred.proofs.LaneLemmas.{lane, mean_fits, mean_lane, one}
use Rattle.inter_pred.proofs.lanes.mean_lanes.Goals as goal

pub overflow_cast-result : goal.overflow_cast-result
overflow_cast-result c =
    mean_fits c.load.result c.load-2.result c.load.ensures.count c.load-2.ensures.count
    (λ k lt. omega (arith, c.load.ensures.lanes k lt, (c.type_inv.first (c.args.at + k)).fits))
    (λ k lt. omega (arith, c.load-2.ensures.lanes k lt, (c.type_inv.second (c.args.at + k)).fits))

pub returns-clause-lanes : goal.returns-clause-lanes
unfolding mean
returns-clause-lanes c k lt =
    let x = get_or c.args.first.now (c.args.at + k) 0 in
    let y = get_or c.args.second.now (c.args.at + k) 0 in
    (one (λ (z : ℕ). z) (mean_lane k x y c.load.result c.load-2.result (lane k c.load.result x c.load.ensures.count lt (c.load.ensures.lanes k lt)) (lane k c.load-2.result y c.load-2.ensures.count lt (c.load-2.ensures.lanes k lt)) (c.type_inv.first (c.args.at + k)).fits (c.type_inv.second (c.args.at + k)).fits)).here

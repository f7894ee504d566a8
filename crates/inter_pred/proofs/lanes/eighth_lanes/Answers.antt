use Rattle.std.proofs.Common.{ℕ, ◌+◌, get_or, ap, ◌∙◌, arith}
use Rattle.inter_pred.proofs.LaneLemmas.{lane, one}
use Rattle.inter_pred.proofs.Mixed.{mixed_fits, mixed_lane}
use Rattle.inter_pred.proofs.lanes.eighth_lanes.Goals as goal

pub overflow_cast-result : goal.overflow_cast-result
overflow_cast-result c =
    mixed_fits c.args.eighths.right c.args.eighths.below c.load.result c.load-2.result c.load-3.result c.load-4.result c.args.eighths.right_in_range c.args.eighths.below_in_range c.load.ensures.count c.load-2.ensures.count c.load-3.ensures.count c.load-4.ensures.count
    (λ k lt. omega (arith, c.load.ensures.lanes k lt, (c.type_inv.above (c.args.at + k)).fits))
    (λ k lt. omega (arith, c.load-2.ensures.lanes k lt, (c.type_inv.above (c.args.at + 1 + k)).fits))
    (λ k lt. omega (arith, c.load-3.ensures.lanes k lt, (c.type_inv.below (c.args.at + k)).fits))
    (λ k lt. omega (arith, c.load-4.ensures.lanes k lt, (c.type_inv.below (c.args.at + 1 + k)).fits))

pub returns-clause-lanes : goal.returns-clause-lanes
returns-clause-lanes c k lt =
    let above = λ (n : ℕ). get_or c.args.above.now n 0 in
    let below = λ (n : ℕ). get_or c.args.below.now n 0 in
    let a = c.args.at + k in
    (one (λ (z : ℕ). z)
    (mixed_lane k c.args.eighths.right c.args.eighths.below (above a) (above (a + 1)) (below a) (below (a + 1)) c.load.result c.load-2.result c.load-3.result c.load-4.result
    (lane k c.load.result (above a) c.load.ensures.count lt (c.load.ensures.lanes k lt))
    (lane k c.load-2.result (above (a + 1)) c.load-2.ensures.count lt (c.load-2.ensures.lanes k lt ∙ ap above (omega arith)))
    (lane k c.load-3.result (below a) c.load-3.ensures.count lt (c.load-3.ensures.lanes k lt))
    (lane k c.load-4.result (below (a + 1)) c.load-4.ensures.count lt (c.load-4.ensures.lanes k lt ∙ ap below (omega arith)))
    c.args.eighths.right_in_range c.args.eighths.below_in_range (c.type_inv.above a).fits (c.type_inv.above (a + 1)).fits (c.type_inv.below a).fits (c.type_inv.below (a + 1)).fits)).here

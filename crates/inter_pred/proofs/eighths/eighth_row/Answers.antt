use Rattle.std.proofs.Common.{ℕ, ◌*◌, arith}
use Rattle.inter_pred.specs.Rows.{eighth_in}
use Rattle.inter_pred.proofs.LaneLemmas.{more_lanes}
use Rattle.inter_pred.proofs.eighths.eighth_row.Goals as goal

pub loop-block-preserved : goal.loop-block-preserved
loop-block-preserved c k within =
    let at = 8 * c.loop-block.block in
    more_lanes (λ (n : ℕ). eighth_in c.args.eighths.right c.args.eighths.below c.args.above.now c.args.below.now n) at c.loop-block.out c.eighth_lanes.result c.eighth_lanes.ensures.count (omega arith) c.loop-block.invariant c.eighth_lanes.ensures.lanes k (omega arith)

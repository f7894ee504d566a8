use Rattle.std.proofs.Common.{ℕ, ◌*◌, arith}
use Rattle.inter_pred.specs.Rows.{raised_in}
use Rattle.inter_pred.proofs.LaneLemmas.{more_lanes}
use Rattle.inter_pred.proofs.rows.sum_row.Goals as goal

pub loop-block-preserved : goal.loop-block-preserved
loop-block-preserved c k within =
    let at = 8 * c.loop-block.block in
    more_lanes (λ (n : ℕ). raised_in c.args.samples.now 1 n) at c.loop-block.sums c.raised_lanes.result c.raised_lanes.ensures.count (omega arith) c.loop-block.invariant c.raised_lanes.ensures.lanes k (omega arith)

use Rattle.std.proofs.Common.{ℕ, ◌*◌, arith}
use Rattle.inter_pred.specs.Rows.{centre_in}
use Rattle.inter_pred.proofs.LaneLemmas.{more_lanes}
use Rattle.inter_pred.proofs.rows.centre_row.Goals as goal

pub loop-block-preserved : goal.loop-block-preserved
loop-block-preserved c k within =
    let at = 8 * c.loop-block.block in
    more_lanes (λ (n : ℕ). centre_in c.args.sums.now c.args.step n) at c.loop-block.out c.centre_lanes.result c.centre_lanes.ensures.count (omega arith) c.loop-block.invariant c.centre_lanes.ensures.lanes k (omega arith)

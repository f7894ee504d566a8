use Rattle.std.proofs.Common.{ℕ, ◌*◌, arith}
use Rattle.inter_pred.specs.Rows.{half_in}
use Rattle.inter_pred.proofs.LaneLemmas.{more_lanes}
use Rattle.inter_pred.proofs.rows.half_row.Goals as goal

pub loop-block-preserved : goal.loop-block-preserved
loop-block-preserved c k within =
    let at = 8 * c.loop-block.block in
    more_lanes (λ (n : ℕ). half_in c.args.samples.now c.args.step n) at c.loop-block.out c.half_lanes.result c.half_lanes.ensures.count (omega arith) c.loop-block.invariant c.half_lanes.ensures.lanes k (omega arith)

use Rattle.std.proofs.Common.{◌+◌, ◌-◌, ◌*◌, ◌∙◌, ◌≤◌, length, arith}
use Rattle.std.proofs.lemmas.Nat.{mul-le}
use Rattle.vd_plane.proofs.Rects.{rows_more}
use Rattle.inter_pred.specs.Rows.{raised_in}
use Rattle.inter_pred.proofs.RowsOf.{raised_in-part}
use Rattle.inter_pred.proofs.blocks.sum_rows.Goals as goal

pub loop-row-preserved : goal.loop-row-preserved
loop-row-preserved c =
    let n = c.args.width in
    let r = c.loop-row.row in
    let down : (r + 1) * n ≤ n * c.args.height = omega (arith, mul-le (r + 1) n c.args.height n (omega arith) (omega arith)) in
    rows_more (λ x y. raised_in c.args.window.now 1 (y * c.args.stride + x)) n r _ c.loop-row.sums c.sum_row.new.sums (omega arith) (omega arith) (omega arith) c.loop-row.invariant
    (λ x lt. c.sum_row.ensures x (omega arith) ∙ raised_in-part c.args.window.now (length c.args.window.now - r * c.args.stride) (r * c.args.stride) x (omega arith))

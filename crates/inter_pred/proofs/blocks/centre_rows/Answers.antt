use Rattle.std.proofs.Common.{◌+◌, ◌-◌, ◌*◌, ◌∙◌, ◌≤◌, length, arith}
use Rattle.std.proofs.lemmas.Nat.{mul-le}
use Rattle.vd_plane.proofs.Rects.{rows_more}
use Rattle.inter_pred.specs.Rows.{centre_in}
use Rattle.inter_pred.proofs.RowsOf.{centre_in-part}
use Rattle.inter_pred.proofs.blocks.centre_rows.Goals as goal

pub loop-row-preserved : goal.loop-row-preserved
loop-row-preserved c =
    let n = c.args.width in
    let r = c.loop-row.row in
    let down : (r + 1) * n ≤ n * c.args.height = omega (arith, mul-le (r + 1) n c.args.height n (omega arith) (omega arith)) in
    rows_more (λ x y. centre_in c.args.sums.now n (y * n + x)) n r _ c.loop-row.out c.centre_row.new.out (omega arith) (omega arith) (omega arith) c.loop-row.invariant
    (λ x lt. c.centre_row.ensures x (omega arith) ∙ centre_in-part c.args.sums.now (length c.args.sums.now - r * n) (r * n) n x (omega arith))

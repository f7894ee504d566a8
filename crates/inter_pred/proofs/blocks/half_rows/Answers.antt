use Rattle.std.proofs.Common.{◌+◌, ◌-◌, ◌*◌, ◌∙◌, ◌≤◌, length, arith}
use Rattle.std.proofs.lemmas.Nat.{mul-le}
use Rattle.vd_plane.proofs.Rects.{rows_more}
use Rattle.inter_pred.specs.Rows.{half_in}
use Rattle.inter_pred.proofs.RowsOf.{half_in-part}
use Rattle.inter_pred.proofs.blocks.half_rows.Goals as goal

pub loop-row-preserved : goal.loop-row-preserved
loop-row-preserved c =
    let n = c.args.width in
    let r = c.loop-row.row in
    let place = c.args.start + r * c.args.stride in
    let down : (r + 1) * n ≤ n * c.args.height = omega (arith, mul-le (r + 1) n c.args.height n (omega arith) (omega arith)) in
    rows_more (λ x y. half_in c.args.window.now c.args.step (c.args.start + y * c.args.stride + x)) n r _ c.loop-row.out c.half_row.new.out (omega arith) (omega arith) (omega arith) c.loop-row.invariant
    (λ x lt. c.half_row.ensures x (omega arith) ∙ half_in-part c.args.window.now (length c.args.window.now - place) place c.args.step x (omega arith))

use Rattle.std.proofs.Common.{◌+◌, ◌-◌, ◌*◌, ◌≤◌, length, get_or, ◌∙◌, arith}
use Rattle.std.proofs.lemmas.Nat.{mul-le}
use Rattle.vd_plane.proofs.Rects.{rows_more}
use Rattle.inter_pred.proofs.RowsOf.{at_part}
use Rattle.inter_pred.proofs.blocks.copy_rows.Goals as goal

pub loop-row-preserved : goal.loop-row-preserved
loop-row-preserved c =
    let n = c.args.width in
    let r = c.loop-row.row in
    let xs = c.args.window.now in
    let place = c.args.start + r * c.args.stride in
    let room = c.requires.room r c.loop-row-test.true in
    let down : (r + 1) * n ≤ n * c.args.height = omega (arith, mul-le (r + 1) n c.args.height n (omega arith) (omega arith)) in
    rows_more (λ x y. get_or xs (c.args.start + y * c.args.stride + x) 0) n r _ c.loop-row.out c.copy_row.new.out (omega arith) (omega arith) (omega arith) c.loop-row.invariant
    (λ x lt. c.copy_row.ensures x (omega arith) ∙ at_part xs (length xs - place) place x (place + x) (omega arith) (omega arith))

use Rattle.std.proofs.Common.{◌+◌, ◌-◌, ◌*◌, ◌≤◌, length, get_or, arith}
use Rattle.std.proofs.lemmas.Nat.{mul-le}
use Rattle.vd_plane.proofs.Rects.{rows_more}
use Rattle.inter_pred.specs.Chroma.{eighth}
use Rattle.inter_pred.proofs.RowsOf.{at_part}
use Rattle.inter_pred.proofs.eighths.eighth_rows.Goals as goal

pub loop-row-preserved : goal.loop-row-preserved
loop-row-preserved c =
    let n = c.args.width in
    let r = c.loop-row.row in
    let stride = c.args.stride in
    let xs = c.args.window.now in
    let place = r * stride in
    let down : (r + 1) * n ≤ n * c.args.height = omega (arith, mul-le (r + 1) n c.args.height n (omega arith) (omega arith)) in
    let room = c.requires.room (r + 1) (omega arith) in
    let room_above = c.requires.room r (omega arith) in
    rows_more (λ x y. eighth c.args.eighths.right c.args.eighths.below (get_or xs (y * stride + x) 0) (get_or xs (y * stride + x + 1) 0) (get_or xs (y * stride + x + stride) 0) (get_or xs (y * stride + x + stride + 1) 0)) n r _ c.loop-row.out c.eighth_row.new.out (omega arith) (omega arith) (omega arith) c.loop-row.invariant
    (λ x lt.
    let p = at_part xs (length xs - place) place x (place + x) (omega arith) (omega arith) in
    let q = at_part xs (length xs - place) place (x + 1) (place + x + 1) (omega arith) (omega arith) in
    let s = at_part xs (length xs - (place + stride)) (place + stride) x (place + x + stride) (omega arith) (omega arith) in
    let t = at_part xs (length xs - (place + stride)) (place + stride) (x + 1) (place + x + stride + 1) (omega arith) (omega arith) in
    let new = c.eighth_row.ensures x (omega arith) in
    cc)

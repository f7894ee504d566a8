use Rattle.std.proofs.Common.{◌+◌, ◌-◌, ◌*◌, ◌≤◌, arith}
use Rattle.std.proofs.lemmas.Nat.{mul-le}
use Rattle.vd_plane.proofs.Rects.{rect_more}
use Rattle.vd_plane.proofs.rect.put_rows.Goals as goal

pub overflow_add-start : goal.overflow_add-start
overflow_add-start c =
    let rows = c.args.y + c.args.height in
    omega (arith, mul-le rows 1 rows c.args.stride (omega arith) c.requires.stride)

pub loop-row-preserved : goal.loop-row-preserved
loop-row-preserved c =
    let rows = c.args.y + c.args.height in
    let place = c.loop-row.row * c.args.width in
    let j = place + c.args.width - place in
    let down : (c.args.y + c.loop-row.row + 1) * c.args.stride ≤ rows * c.args.stride =
    mul-le (c.args.y + c.loop-row.row + 1) c.args.stride rows c.args.stride (omega arith) (omega arith) in
    λ h x' y'. rect_more c.args.stride h c.args.x c.args.y c.args.width c.loop-row.row _ j c.loop-row.samples c.args.samples.now c.args.from.now c.copy_from_slice.new.self c.requires.across (omega arith) (omega arith) (omega arith) (omega arith) c.copy_from_slice.ensures.after x' y' (c.loop-row.invariant h x' y')

use Rattle.std.proofs.Common.{◌+◌, ◌-◌, ◌*◌, ◌≤◌, length, get_or, ap₂, ◌∙◌, arith}
use Rattle.std.proofs.lemmas.Nat.{mul-le}
use Rattle.vd_plane.proofs.Rects.{rows_more}
use Rattle.inter_pred.specs.Luma.{mean}
use Rattle.inter_pred.proofs.RowsOf.{after_part, at_part}
use Rattle.inter_pred.proofs.blocks.mean_rows.Goals as goal

pub loop-row-preserved : goal.loop-row-preserved
loop-row-preserved c =
    let n = c.args.width in
    let r = c.loop-row.row in
    let xs = c.args.window.now in
    let old = c.args.out.now in
    let place = c.args.start + r * c.args.stride in
    let room = c.requires.room r c.loop-row-test.true in
    let down : (r + 1) * n ≤ n * c.args.height = omega (arith, mul-le (r + 1) n c.args.height n (omega arith) (omega arith)) in (
      rows_more (λ x y. mean (get_or old (y * n + x) 0) (get_or xs (c.args.start + y * c.args.stride + x) 0)) n r _ c.loop-row.out c.mean_row.new.out (omega arith) (omega arith) (omega arith) c.loop-row.invariant.0
          (λ x lt. c.mean_row.ensures x (omega arith)
          ∙ ap₂ mean (at_part c.loop-row.out (r * n + n - r * n) (r * n) x (r * n + x) (omega arith) (omega arith) ∙ c.loop-row.invariant.1 (r * n + x) (omega arith))
          (at_part xs (length xs - place) place x (place + x) (omega arith) (omega arith))),
      λ k le. after_part (r * n) _ k c.loop-row.out c.mean_row.new.out (omega arith) (omega arith) (omega arith) ∙ c.loop-row.invariant.1 k (omega arith),
    )

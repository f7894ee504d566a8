use Rattle.std.proofs.Common.{length, get_or, refl}
use Rattle.intra_pred.proofs.Places.{row_kept, row_more}
use Rattle.intra_pred.proofs.rows.put_rows.Goals as goal

pub loop-y-preserved : goal.loop-y-preserved
loop-y-preserved c =
    let row = c.args.row.now in (
      row_more (length row) c.loop-y.y c.args.from (λ x y. get_or row x 0) c.put_row.new.block c.loop-y.block row c.put_row.ensures c.loop-y.invariant.0 (λ x h. refl),
      row_kept (length row) c.loop-y.y c.args.from c.put_row.new.block c.loop-y.block c.args.block.now row c.loop-y.auto.y c.put_row.ensures c.loop-y.invariant.1,
    )

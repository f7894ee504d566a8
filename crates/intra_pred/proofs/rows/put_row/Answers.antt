use Rattle.std.proofs.Common.{length, refl}
use Rattle.intra_pred.proofs.Places.{row_written}
use Rattle.intra_pred.proofs.rows.put_row.Goals as goal

pub returns : goal.returns
returns c = row_written (length c.args.row.now) c.args.y c.put_at.new.block c.args.block.now c.args.row.now refl c.put_at.ensures

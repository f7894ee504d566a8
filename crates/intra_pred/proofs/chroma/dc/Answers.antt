use Rattle.intra_pred.proofs.ChromaMeans.{dc_is}
use Rattle.intra_pred.proofs.chroma.dc.Goals as goal

pub returns : goal.returns
returns c = dc_is c.args.left c.args.top c.means.result c.put_rows.new.block c.put_rows-2.new.block c.means.ensures c.put_rows.ensures.written c.put_rows-2.ensures.written c.put_rows-2.ensures.kept

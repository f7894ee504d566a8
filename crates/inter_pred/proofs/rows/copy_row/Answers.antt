use Rattle.std.proofs.Common.{arith}
use Rattle.inter_pred.proofs.LaneLemmas.{copied}
use Rattle.inter_pred.proofs.rows.copy_row.Goals as goal

pub returns-in-16 : goal.returns-in-16
returns-in-16 c k within = copied 16 k c.args.samples.now c.args.out.now (omega arith) (omega arith) within

pub returns-in-8 : goal.returns-in-8
returns-in-8 c k within = copied 8 k c.args.samples.now c.args.out.now (omega arith) (omega arith) within

pub returns-in-4 : goal.returns-in-4
returns-in-4 c k within = copied 4 k c.args.samples.now c.args.out.now (omega arith) (omega arith) within

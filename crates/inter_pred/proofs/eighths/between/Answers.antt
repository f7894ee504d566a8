use Rattle.std.proofs.Common.{arith}
use Rattle.inter_pred.proofs.Mixed.{both_le, mixed}
use Rattle.inter_pred.proofs.eighths.between.Goals as goal

pub overflow_add-result : goal.overflow_add-result
overflow_add-result c = omega (arith, both_le c.args.eighths.right c.args.eighths.below c.from.result c.from-2.result c.from-3.result c.from-4.result (omega arith) (omega arith) (omega arith) (omega arith) (omega arith) (omega arith))

pub overflow_add-result-2 : goal.overflow_add-result-2
overflow_add-result-2 c = omega (arith, both_le c.args.eighths.right c.args.eighths.below c.from.result c.from-2.result c.from-3.result c.from-4.result (omega arith) (omega arith) (omega arith) (omega arith) (omega arith) (omega arith))

pub overflow_cast-result : goal.overflow_cast-result
overflow_cast-result c = omega (arith, both_le c.args.eighths.right c.args.eighths.below c.from.result c.from-2.result c.from-3.result c.from-4.result (omega arith) (omega arith) (omega arith) (omega arith) (omega arith) (omega arith))

pub returns : goal.returns
returns c =
    let x = c.args.eighths.right in
    let y = c.args.eighths.below in
    rw (c.from.ensures, c.from-2.ensures, c.from-3.ensures, c.from-4.ensures) (mixed x y c.args.p c.args.q c.args.r c.args.s)

use Rattle.std.proofs.Common.{arith}
use Rattle.nal_units.proofs.Advancing.{outside_by_zero, outside_by_start, outside_by_stray}
use Rattle.nal_units.proofs.finder.outside.Goals as goal

pub returns-then-zeros-lt2 : goal.returns-then-zeros-lt2
returns-then-zeros-lt2 c = λ t s o here. outside_by_zero t s c.args.zeros _ c.args.byte o (omega arith) (omega arith)

pub returns-else-zeros-lt2 : goal.returns-else-zeros-lt2
returns-else-zeros-lt2 c = λ t s o here. outside_by_zero t s c.args.zeros _ c.args.byte o (omega arith) (omega arith)

pub returns-then-zeros-eq2 : goal.returns-then-zeros-eq2
returns-then-zeros-eq2 c = λ t s o here. outside_by_start t s c.args.zeros c.args.position c.args.byte o here (omega arith) (omega arith)

pub returns-else-byte-eq1 : goal.returns-else-byte-eq1
returns-else-byte-eq1 c = λ t s o here. outside_by_stray t s c.args.zeros c.args.position c.args.byte o here (λ e. omega arith) (λ one two. omega arith)

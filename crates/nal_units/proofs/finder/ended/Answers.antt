use Rattle.std.proofs.Common.{arith}
use Rattle.nal_units.proofs.Advancing.{empty_by, unit_by_zero, unit_by_start}
use Rattle.nal_units.proofs.finder.ended.Goals as goal

pub returns-then-start-end : goal.returns-then-start-end
returns-then-start-end c = λ t s i third. empty_by t s c.args.start c.args.end c.args.byte i third (omega arith) (omega arith)

pub returns-then-byte-eq0 : goal.returns-then-byte-eq0
returns-then-byte-eq0 c = λ t s i third. unit_by_zero t s c.args.start c.args.end c.args.byte i third (λ e. omega arith) (omega arith)

pub returns-else-byte-eq0 : goal.returns-else-byte-eq0
returns-else-byte-eq0 c = λ t s i third. unit_by_start t s c.args.start c.args.end c.args.byte i third (λ e. omega arith) (omega arith)

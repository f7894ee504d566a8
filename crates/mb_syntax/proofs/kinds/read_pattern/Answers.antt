use Rattle.mb_syntax.proofs.IntraLemmas.{no_pattern, pattern_read, wrong_pattern}
use Rattle.mb_syntax.proofs.kinds.read_pattern.Goals as goal

pub returns-in_err-code : goal.returns-in_err-code
returns-in_err-code c = rw c.from_residual.ensures (no_pattern c.args.intra c.args.reader.now c.in_err-code.ensures.reads.1)

pub returns-then-code-gt47 : goal.returns-then-code-gt47
returns-then-code-gt47 c = wrong_pattern c.args.intra c.in_ok-code.code c.args.reader.now c.read_ue.new.self c.in_ok-code.ensures.reads.0 c.in_ok-code.ensures.reads.1 c.if-code-gt47.true

pub returns : goal.returns
returns c = rw c.pattern.ensures (pattern_read c.args.intra c.in_ok-code.code c.args.reader.now c.read_ue.new.self c.if-code-gt47.false c.in_ok-code.ensures.reads.1)

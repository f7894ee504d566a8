use Rattle.mb_syntax.proofs.InterLemmas.{no_sub_kind, wrong_sub_kind}
use Rattle.mb_syntax.proofs.inter.read_sub_kind.Goals as goal

pub returns-in_err-kind : goal.returns-in_err-kind
returns-in_err-kind c = rw c.from_residual.ensures (no_sub_kind c.args.reader.now c.in_err-kind.ensures.reads.1)

pub returns-then-kind-gt3 : goal.returns-then-kind-gt3
returns-then-kind-gt3 c = wrong_sub_kind c.in_ok-kind.kind c.args.reader.now c.read_ue.new.self c.in_ok-kind.ensures.reads.0 c.in_ok-kind.ensures.reads.1 c.if-kind-gt3.true

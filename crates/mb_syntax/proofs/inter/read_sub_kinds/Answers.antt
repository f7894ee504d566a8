use Rattle.std.proofs.Common.{refl, arith}
use Rattle.bit_io.specs.Codewords.{ue}
use Rattle.mb_syntax.proofs.InterLemmas.{sub_kind_free}
use Rattle.mb_syntax.proofs.Lists.{all_read, more_read, no_list, none_read}
use Rattle.mb_syntax.specs.KindSteps.{IsSubKind}
use Rattle.mb_syntax.proofs.inter.read_sub_kinds.Goals as goal

pub loop-i-init : goal.loop-i-init
loop-i-init c = none_read IsSubKind ue 4 _ c.args.reader.now refl

pub returns-in_err-kinds : goal.returns-in_err-kinds
returns-in_err-kinds c = rw c.from_residual.ensures (no_list IsSubKind ue sub_kind_free 4 c.loop-i.i c.loop-i.kinds c.args.reader.now c.loop-i.reader c.loop-i-test.true c.loop-i.invariant c.in_err-kinds.ensures)

pub loop-i-preserved : goal.loop-i-preserved
loop-i-preserved c = more_read IsSubKind ue 4 c.loop-i.i c.loop-i.kinds _ c.args.reader.now c.loop-i.reader c.read_sub_kind.new.reader c.loop-i-test.true c.loop-i.invariant c.in_ok-kinds.ensures.0 c.in_ok-kinds.ensures.1

pub returns : goal.returns
returns c = all_read IsSubKind ue 4 c.loop-i.i c.loop-i.kinds c.args.reader.now c.loop-i.reader (omega arith) c.loop-i.invariant

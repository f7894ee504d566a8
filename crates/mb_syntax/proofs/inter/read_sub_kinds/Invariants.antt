use Rattle.bit_io.specs.Codewords.{ue}
use Rattle.mb_syntax.proofs.Lists.{ReadSo}
use Rattle.mb_syntax.specs.KindSteps.{IsSubKind}
use Rattle.mb_syntax.proofs.inter.read_sub_kinds.Given as goal

abbrev pub invariant-loop-i : goal.invariant-loop-i
invariant-loop-i l = ReadSo IsSubKind ue 4 l.i l.kinds l.initial.reader l.reader

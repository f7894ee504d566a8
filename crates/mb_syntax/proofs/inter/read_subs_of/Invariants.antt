use Rattle.mb_syntax.proofs.InterLemmas.{ReadSubs}
use Rattle.mb_syntax.proofs.inter.read_subs_of.Given as goal

abbrev pub invariant-loop-i : goal.invariant-loop-i
invariant-loop-i l = ReadSubs l.fn.kinds l.fn.references l.i l.subs l.initial.reader l.reader

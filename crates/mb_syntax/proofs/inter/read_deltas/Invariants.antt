use Rattle.mb_syntax.proofs.InterLemmas.{ReadDeltas}
use Rattle.mb_syntax.proofs.inter.read_deltas.Given as goal

abbrev pub invariant-loop-i : goal.invariant-loop-i
invariant-loop-i l = ReadDeltas l.i l.deltas l.initial.reader l.reader

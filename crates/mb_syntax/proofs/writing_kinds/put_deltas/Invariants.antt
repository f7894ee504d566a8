use Rattle.mb_syntax.specs.Prediction.{vector_bits}
use Rattle.mb_syntax.proofs.Written.{WrittenSo}
use Rattle.mb_syntax.proofs.writing_kinds.put_deltas.Given as goal

abbrev pub invariant-loop-i : goal.invariant-loop-i
invariant-loop-i l = WrittenSo vector_bits l.i l.fn.deltas l.initial.out l.out

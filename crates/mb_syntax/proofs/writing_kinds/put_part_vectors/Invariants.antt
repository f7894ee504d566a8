use Rattle.mb_syntax.specs.Prediction.{part_vector_bits}
use Rattle.mb_syntax.proofs.Written.{WrittenSo}
use Rattle.mb_syntax.proofs.writing_kinds.put_part_vectors.Given as goal

abbrev pub invariant-loop-i : goal.invariant-loop-i
invariant-loop-i l = WrittenSo part_vector_bits l.i l.fn.parts l.initial.out l.out

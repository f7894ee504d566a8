use Rattle.mb_syntax.specs.Prediction.{part_reference_bits}
use Rattle.mb_syntax.proofs.Written.{WrittenSo}
use Rattle.mb_syntax.proofs.writing_kinds.put_part_references.Given as goal

abbrev pub invariant-loop-i : goal.invariant-loop-i
invariant-loop-i l = WrittenSo (part_reference_bits l.fn.slice) l.i l.fn.parts l.initial.out l.out

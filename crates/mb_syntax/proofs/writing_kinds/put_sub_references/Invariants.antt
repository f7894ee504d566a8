use Rattle.mb_syntax.specs.Prediction.{sub_reference_bits}
use Rattle.mb_syntax.proofs.Written.{WrittenSo}
use Rattle.mb_syntax.proofs.writing_kinds.put_sub_references.Given as goal

abbrev pub invariant-loop-i : goal.invariant-loop-i
invariant-loop-i l = WrittenSo (sub_reference_bits l.fn.slice) l.i l.fn.subs l.initial.out l.out

use Rattle.mb_syntax.specs.Prediction.{mode_bits}
use Rattle.mb_syntax.proofs.Written.{WrittenSo}
use Rattle.mb_syntax.proofs.writing_kinds.put_modes.Given as goal

abbrev pub invariant-loop-i : goal.invariant-loop-i
invariant-loop-i l = WrittenSo mode_bits l.i l.fn.modes l.initial.out l.out

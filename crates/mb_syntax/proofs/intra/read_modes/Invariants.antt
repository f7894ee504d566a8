use Rattle.mb_syntax.proofs.Lists.{ReadSo}
use Rattle.mb_syntax.specs.Prediction.{IsMode, mode_bits}
use Rattle.mb_syntax.proofs.intra.read_modes.Given as goal

abbrev pub invariant-loop-i : goal.invariant-loop-i
invariant-loop-i l = ReadSo IsMode mode_bits 16 l.i l.modes l.initial.reader l.reader

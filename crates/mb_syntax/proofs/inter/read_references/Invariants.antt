use Rattle.mb_syntax.proofs.Lists.{ReadSo}
use Rattle.mb_syntax.specs.Prediction.{IsReference, reference_bits}
use Rattle.mb_syntax.proofs.inter.read_references.Given as goal

abbrev pub invariant-loop-i : goal.invariant-loop-i
invariant-loop-i l = ReadSo (IsReference l.fn.slice) (reference_bits l.fn.slice) 4 l.i l.references l.initial.reader l.reader

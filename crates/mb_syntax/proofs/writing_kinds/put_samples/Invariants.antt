use Rattle.std.proofs.Common.{ℕ}
use Rattle.bit_io.specs.Bits.{u}
use Rattle.mb_syntax.proofs.Written.{WrittenSo}
use Rattle.mb_syntax.proofs.writing_kinds.put_samples.Given as goal

abbrev pub invariant-loop-i : goal.invariant-loop-i
invariant-loop-i l = WrittenSo (λ (byte : ℕ). u byte 8) l.i l.fn.samples l.initial.out l.out

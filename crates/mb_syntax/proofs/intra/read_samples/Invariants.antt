use Rattle.std.proofs.Common.{ℕ, ◌<◌}
use Rattle.bit_io.specs.Bits.{u}
use Rattle.mb_syntax.proofs.Lists.{ReadSo}
use Rattle.mb_syntax.proofs.intra.read_samples.Given as goal

abbrev pub invariant-loop-i : goal.invariant-loop-i
invariant-loop-i l = ReadSo (λ (byte : ℕ). byte < 256) (λ (byte : ℕ). u byte 8) 384 l.i l.samples l.initial.reader l.reader

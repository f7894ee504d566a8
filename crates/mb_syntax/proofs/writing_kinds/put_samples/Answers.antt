use Rattle.std.proofs.Common.{ℕ, arith}
use Rattle.bit_io.specs.Bits.{u}
use Rattle.mb_syntax.proofs.IntraLemmas.{samples_written}
use Rattle.mb_syntax.proofs.Written.{all_written}
use Rattle.mb_syntax.proofs.writing_kinds.put_samples.Goals as goal

pub returns-clause-ok : goal.returns-clause-ok
returns-clause-ok c = samples_written c.args.samples.now c.args.out.now c.loop-i.out
    (all_written (λ (byte : ℕ). u byte 8) c.loop-i.i c.args.samples.now c.args.out.now c.loop-i.out (omega arith) c.loop-i.invariant)

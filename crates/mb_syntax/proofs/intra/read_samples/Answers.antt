use Rattle.std.proofs.Common.{ℕ, ◌<◌, refl, arith}
use Rattle.bit_io.specs.Bits.{u}
use Rattle.mb_syntax.proofs.IntraLemmas.{byte_free, no_samples, samples_read}
use Rattle.mb_syntax.proofs.Lists.{all_read, more_read, no_list, none_read}
use Rattle.mb_syntax.proofs.intra.read_samples.Goals as goal

abbrev IsByte : ℕ → Type 0
IsByte byte = byte < 256

pub loop-i-init : goal.loop-i-init
loop-i-init c = none_read IsByte (λ byte. u byte 8) 384 _ c.args.reader.now refl

pub loop-i-preserved : goal.loop-i-preserved
loop-i-preserved c = more_read IsByte (λ byte. u byte 8) 384 c.loop-i.i c.loop-i.samples c.in_ok-samples.field-0 c.args.reader.now c.loop-i.reader c.read_u.new.self c.loop-i-test.true c.loop-i.invariant
    c.in_ok-samples.ensures.reads.0 c.in_ok-samples.ensures.reads.1

pub returns-in_err-samples : goal.returns-in_err-samples
returns-in_err-samples c = rw c.from_residual.ensures (no_samples c.args.reader.now
    (no_list IsByte (λ byte. u byte 8) byte_free 384 c.loop-i.i c.loop-i.samples c.args.reader.now c.loop-i.reader c.loop-i-test.true c.loop-i.invariant (λ v rest is e. c.in_err-samples.ensures.reads.1 v rest is e)))

pub returns : goal.returns
returns c = samples_read c.loop-i.samples c.args.reader.now c.loop-i.reader (all_read IsByte (λ byte. u byte 8) 384 c.loop-i.i c.loop-i.samples c.args.reader.now c.loop-i.reader (omega arith) c.loop-i.invariant)

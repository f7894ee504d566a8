use Rattle.std.proofs.Common.{refl, arith}
use Rattle.mb_syntax.proofs.InterLemmas.{reference_free}
use Rattle.mb_syntax.proofs.Lists.{all_read, more_read, no_list, none_read}
use Rattle.mb_syntax.specs.Prediction.{IsReference, reference_bits}
use Rattle.mb_syntax.proofs.inter.read_references.Goals as goal

pub loop-i-init : goal.loop-i-init
loop-i-init c = none_read (IsReference c.args.slice.now) (reference_bits c.args.slice.now) 4 _ c.args.reader.now refl

pub returns-in_err-references : goal.returns-in_err-references
returns-in_err-references c = rw c.from_residual.ensures (no_list (IsReference c.args.slice.now) (reference_bits c.args.slice.now) (reference_free c.args.slice.now c.requires.few) 4 c.loop-i.i c.loop-i.references c.args.reader.now c.loop-i.reader
    c.loop-i-test.true c.loop-i.invariant c.in_err-references.ensures)

pub loop-i-preserved : goal.loop-i-preserved
loop-i-preserved c = more_read (IsReference c.args.slice.now) (reference_bits c.args.slice.now) 4 c.loop-i.i c.loop-i.references _ c.args.reader.now c.loop-i.reader c.read_reference.new.reader
    c.loop-i-test.true c.loop-i.invariant c.in_ok-references.ensures.0 c.in_ok-references.ensures.1

pub returns : goal.returns
returns c = all_read (IsReference c.args.slice.now) (reference_bits c.args.slice.now) 4 c.loop-i.i c.loop-i.references c.args.reader.now c.loop-i.reader (omega arith) c.loop-i.invariant

use Rattle.std.proofs.Common.{arith, refl}
use Rattle.mb_syntax.proofs.InterLemmas.{all_subs, more_subs, no_subs, none_subs}
use Rattle.mb_syntax.proofs.inter.read_subs_of.Goals as goal

pub loop-i-init : goal.loop-i-init
loop-i-init c = none_subs c.args.kinds.now c.args.references.now _ c.args.reader.now refl

pub returns-in_err-deltas : goal.returns-in_err-deltas
returns-in_err-deltas c = rw c.from_residual.ensures (no_subs c.args.kinds.now c.args.references.now c.loop-i.i c.loop-i.subs c.args.reader.now c.loop-i.reader c.loop-i-test.true c.loop-i.invariant c.in_err-deltas.ensures)

pub loop-i-preserved : goal.loop-i-preserved
loop-i-preserved c = more_subs c.args.kinds.now c.args.references.now c.loop-i.i c.loop-i.subs c.in_ok-deltas.deltas c.args.reader.now c.loop-i.reader c.read_deltas.new.reader
    c.loop-i-test.true c.loop-i.invariant c.in_ok-deltas.ensures.0 c.in_ok-deltas.ensures.1

pub returns : goal.returns
returns c = all_subs c.args.kinds.now c.args.references.now c.loop-i.i c.loop-i.subs c.args.reader.now c.loop-i.reader (omega arith) c.loop-i.invariant

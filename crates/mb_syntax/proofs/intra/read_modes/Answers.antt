use Rattle.std.proofs.Common.{refl, arith}
use Rattle.mb_syntax.proofs.Lists.{all_read, more_read, no_list, none_read}
use Rattle.mb_syntax.proofs.ModeLemmas.{mode_free}
use Rattle.mb_syntax.specs.Prediction.{IsMode, mode_bits}
use Rattle.mb_syntax.proofs.intra.read_modes.Goals as goal

pub loop-i-init : goal.loop-i-init
loop-i-init c = none_read IsMode mode_bits 16 _ c.args.reader.now refl

pub returns-in_err-modes : goal.returns-in_err-modes
returns-in_err-modes c = rw c.from_residual.ensures
    (no_list IsMode mode_bits mode_free 16 c.loop-i.i c.loop-i.modes c.args.reader.now c.loop-i.reader c.loop-i-test.true c.loop-i.invariant c.in_err-modes.ensures)

pub loop-i-preserved : goal.loop-i-preserved
loop-i-preserved c = more_read IsMode mode_bits 16 c.loop-i.i c.loop-i.modes _ c.args.reader.now c.loop-i.reader c.read_mode.new.reader c.loop-i-test.true c.loop-i.invariant c.in_ok-modes.ensures.0 c.in_ok-modes.ensures.1

pub returns : goal.returns
returns c = all_read IsMode mode_bits 16 c.loop-i.i c.loop-i.modes c.args.reader.now c.loop-i.reader (omega arith) c.loop-i.invariant

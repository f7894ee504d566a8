use Rattle.std.proofs.Common.{arith}
use Rattle.cb_maker.proofs.Added.{all_added, more_added, none_added}
use Rattle.cb_maker.proofs.stream.put_slices.Goals as goal

pub slice_unit-requires : goal.slice_unit-requires
slice_unit-requires c = record { picture = omega arith; number = omega arith; before = c.loop-slice.invariant.1 }

pub loop-slice-init : goal.loop-slice-init
loop-slice-init c = (none_added c.args.number c.args.units.now.items c.new-draws.result.state c.new-draws.ensures, omega arith)

pub loop-slice-preserved : goal.loop-slice-preserved
loop-slice-preserved c = (more_added c.args.number c.loop-slice.slice c.loop-slice.draws.state _ c.args.units.now.items c.loop-slice.units.items _ c.in_ok-unit.unit c.loop-slice.invariant.0 c.in_ok-unit.ensures.unit c.in_ok-unit.ensures.state c.in_ok-push.ensures.items, omega (arith, c.in_ok-unit.ensures.before))

pub returns : goal.returns
returns c = all_added c.args.number c.loop-slice.slice c.loop-slice.draws.state c.args.units.now.items c.loop-slice.units.items (omega arith) c.loop-slice.invariant.0

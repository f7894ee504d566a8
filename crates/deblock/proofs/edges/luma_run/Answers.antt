use Rattle.std.proofs.Common.{◌*◌, ◌+◌, arith}
use Rattle.deblock.specs.Lines.{after_luma_line}
use Rattle.deblock.specs.Runs.{run_line}
use Rattle.deblock.proofs.Places.{luma_leaves, flat_run}
use Rattle.deblock.proofs.Steps.{lines_more, no_lines}
use Rattle.deblock.proofs.edges.luma_run.Goals as goal

pub returns-then-is_passed_over : goal.returns-then-is_passed_over
returns-then-is_passed_over c = flat_run after_luma_line luma_leaves c.args.run c.args.indexes c.args.strengths 4 16 c.args.samples.now (c.is_passed_over.ensures.0 c.if-is_passed_over.true)

pub loop-place-init : goal.loop-place-init
loop-place-init c = no_lines after_luma_line (run_line c.args.run c.args.indexes c.args.strengths 4) 0 c.args.samples.now

pub loop-place-preserved : goal.loop-place-preserved
loop-place-preserved c =
    lines_more after_luma_line (run_line c.args.run c.args.indexes c.args.strengths 4) 0 (4 * c.loop-place.place) 4 (4 * c.loop-place.place) (4 * (c.loop-place.place + 1)) c.args.samples.now c.loop-place.samples _ (omega arith) (omega arith) c.loop-place.invariant c.luma_place.ensures

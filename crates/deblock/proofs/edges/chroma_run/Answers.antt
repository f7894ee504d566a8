use Rattle.std.proofs.Common.{◌*◌, ◌+◌, arith}
use Rattle.deblock.specs.Lines.{after_chroma_line}
use Rattle.deblock.specs.Runs.{run_line}
use Rattle.deblock.proofs.Places.{chroma_leaves, flat_run}
use Rattle.deblock.proofs.Steps.{lines_more, no_lines}
use Rattle.deblock.proofs.edges.chroma_run.Goals as goal

pub returns-then-is_passed_over : goal.returns-then-is_passed_over
returns-then-is_passed_over c = flat_run after_chroma_line chroma_leaves c.args.run c.args.indexes c.args.strengths 2 8 c.args.samples.now (c.is_passed_over.ensures.0 c.if-is_passed_over.true)

pub loop-place-init : goal.loop-place-init
loop-place-init c = no_lines after_chroma_line (run_line c.args.run c.args.indexes c.args.strengths 2) 0 c.args.samples.now

pub loop-place-preserved : goal.loop-place-preserved
loop-place-preserved c =
    lines_more after_chroma_line (run_line c.args.run c.args.indexes c.args.strengths 2) 0 (2 * c.loop-place.place) 2 (2 * c.loop-place.place) (2 * (c.loop-place.place + 1)) c.args.samples.now c.loop-place.samples _ (omega arith) (omega arith) c.loop-place.invariant c.chroma_place.ensures

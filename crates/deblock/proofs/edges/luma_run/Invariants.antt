use Rattle.std.proofs.Common.{◌≡◌, ◌*◌}
use Rattle.deblock.specs.Deblocked.{after_lines}
use Rattle.deblock.specs.Lines.{after_luma_line}
use Rattle.deblock.specs.Runs.{run_line}
use Rattle.deblock.proofs.edges.luma_run.Given as goal

abbrev pub invariant-loop-place : goal.invariant-loop-place
invariant-loop-place l = l.samples ≡ after_lines after_luma_line (run_line l.fn.run l.fn.indexes l.fn.strengths 4) 0 (4 * l.place) l.initial.samples

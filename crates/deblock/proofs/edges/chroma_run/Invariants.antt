use Rattle.std.proofs.Common.{◌≡◌, ◌*◌}
use Rattle.deblock.specs.Deblocked.{after_lines}
use Rattle.deblock.specs.Lines.{after_chroma_line}
use Rattle.deblock.specs.Runs.{run_line}
use Rattle.deblock.proofs.edges.chroma_run.Given as goal

abbrev pub invariant-loop-place : goal.invariant-loop-place
invariant-loop-place l = l.samples ≡ after_lines after_chroma_line (run_line l.fn.run l.fn.indexes l.fn.strengths 2) 0 (2 * l.place) l.initial.samples

use Rattle.std.proofs.Common.{◌≡◌}
use Rattle.deblock.specs.Deblocked.{after_lines}
use Rattle.deblock.specs.Lines.{after_luma_line}
use Rattle.deblock.specs.Runs.{same_line}
use Rattle.deblock.proofs.edges.luma_lines.Given as goal

abbrev pub invariant-loop-k : goal.invariant-loop-k
invariant-loop-k l = l.samples ≡ after_lines after_luma_line (same_line l.fn.run l.fn.filter) l.from l.k l.initial.samples

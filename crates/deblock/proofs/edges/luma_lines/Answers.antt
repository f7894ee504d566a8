use Rattle.deblock.specs.Lines.{after_luma_line}
use Rattle.deblock.specs.Runs.{same_line}
use Rattle.deblock.proofs.Steps.{no_lines, one_more}
use Rattle.deblock.proofs.edges.luma_lines.Goals as goal

pub loop-k-init : goal.loop-k-init
loop-k-init c = no_lines after_luma_line (same_line c.args.run c.args.filter) c.args.from c.args.samples.now

pub loop-k-preserved : goal.loop-k-preserved
loop-k-preserved c = one_more after_luma_line (same_line c.args.run c.args.filter) c.args.from c.loop-k.k c.args.samples.now c.loop-k.samples _ c.loop-k.invariant c.luma_line.ensures

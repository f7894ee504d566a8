use Rattle.std.proofs.Common.{rules}
use Rattle.vdplay.specs.Output.{line_with}
use Rattle.vdplay.proofs.line_writer.line_of.Goals as goal

pub returns : goal.returns
unfolding line_with
returns c = search rules

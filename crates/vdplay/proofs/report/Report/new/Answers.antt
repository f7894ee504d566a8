use Rattle.std.proofs.KnownBytes.{Appends-nil}
use Rattle.output_order.specs.OutputOrder.{nothing_yet}
use Rattle.vdplay.specs.Output.{picture_lines}
use Rattle.vdplay.proofs.report.Report.new.Goals as goal

pub returns-in-Decode-clause-nothing : goal.returns-in-Decode-clause-nothing
returns-in-Decode-clause-nothing c = λ start. (nothing_yet, c.new.ensures, Appends-nil start)

pub returns-in-Inspect-clause-nothing : goal.returns-in-Inspect-clause-nothing
unfolding picture_lines
returns-in-Inspect-clause-nothing c = λ start. (c.new-in-Inspect.ensures, Appends-nil start)

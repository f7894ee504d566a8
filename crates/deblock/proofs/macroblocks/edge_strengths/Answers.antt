use Rattle.deblock.proofs.Meetings.{strengths_met}
use Rattle.deblock.proofs.macroblocks.edge_strengths.Goals as goal

pub returns : goal.returns
returns c = strengths_met c.args.size.width c.args.marks.now c.args.mb c.args.other c.args.is_vertical c.args.edge c.strengths.result c.requires.other c.strengths.ensures

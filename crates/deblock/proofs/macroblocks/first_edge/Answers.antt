use Rattle.std.proofs.Common.{sym, ◌∙◌}
use Rattle.deblock.proofs.IdleEdges.{chroma_none_edge, luma_none_edge}
use Rattle.deblock.proofs.macroblocks.first_edge.Goals as goal

pub returns-in-None-clause-y : goal.returns-in-None-clause-y
returns-in-None-clause-y c = luma_none_edge c.args.size.width c.args.marks.now c.args.mb c.args.is_vertical c.args.y.now (sym c.before_first.ensures.before ∙ c.in-None.is)

pub returns-in-None-clause-cb : goal.returns-in-None-clause-cb
returns-in-None-clause-cb c = chroma_none_edge c.args.info.now.chroma_qp_index_offset c.args.size.width c.args.marks.now c.args.mb c.args.is_vertical c.args.cb.now (sym c.before_first.ensures.before ∙ c.in-None.is)

pub returns-in-None-clause-cr : goal.returns-in-None-clause-cr
returns-in-None-clause-cr c = chroma_none_edge c.args.info.now.chroma_qp_index_offset c.args.size.width c.args.marks.now c.args.mb c.args.is_vertical c.args.cr.now (sym c.before_first.ensures.before ∙ c.in-None.is)

use Rattle.std.proofs.Common.{sym, ◌∙◌}
use Rattle.deblock.proofs.Puts.{chroma_line_is, chroma_line_left}
use Rattle.deblock.proofs.edges.chroma_line.Goals as goal

pub returns-then-is_filtered : goal.returns-then-is_filtered
returns-then-is_filtered c = chroma_line_is c.args.samples.now _ c.args.at c.args.step c.args.filter c.chroma_changed.result (sym c.is_filtered.ensures ∙ c.if-is_filtered.true) c.chroma_changed.ensures c.put_edge.ensures

pub returns-else-is_filtered : goal.returns-else-is_filtered
returns-else-is_filtered c = chroma_line_left c.args.samples.now c.args.at c.args.step c.args.filter (sym c.is_filtered.ensures ∙ c.if-is_filtered.false)

use Rattle.std.proofs.Common.{sym, ◌∙◌}
use Rattle.deblock.proofs.Puts.{luma_line_is, luma_line_left}
use Rattle.deblock.proofs.edges.luma_line.Goals as goal

pub returns-then-is_filtered : goal.returns-then-is_filtered
returns-then-is_filtered c =
    luma_line_is c.args.samples.now _ c.args.at c.args.step c.args.filter c.side_before-p.result c.side_after-q.result c.luma_changed.result c.side_before-p.ensures c.side_after-q.ensures (sym c.is_filtered.ensures ∙ c.if-is_filtered.true) c.luma_changed.ensures c.put_line.ensures

pub returns-else-is_filtered : goal.returns-else-is_filtered
returns-else-is_filtered c =
    luma_line_left c.args.samples.now c.args.at c.args.step c.args.filter c.side_before-p.result c.side_after-q.result c.side_before-p.ensures c.side_after-q.ensures (sym c.is_filtered.ensures ∙ c.if-is_filtered.false)

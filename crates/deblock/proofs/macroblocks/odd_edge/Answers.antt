use Rattle.std.proofs.Common.{◌≡◌, true, rules}
use Rattle.deblock.proofs.IdleEdges.{inner, luma_weak_edge}
use Rattle.deblock.proofs.macroblocks.odd_edge.Goals as goal

pub edge_strengths-strengths-requires-clause-other : goal.edge_strengths-strengths-requires-clause-other
edge_strengths-strengths-requires-clause-other c = inner c.args.size.width c.args.mb c.args.is_vertical c.args.edge c.requires.some

pub returns-else-not-are_none : goal.returns-else-not-are_none
returns-else-not-are_none c =
    let none : c.are_none.result ≡ true = search rules in
    luma_weak_edge c.args.size.width c.args.marks.now c.args.mb c.args.mb c.args.is_vertical c.args.edge c.edge_strengths-strengths.result c.args.y.now c.requires.edge
    (inner c.args.size.width c.args.mb c.args.is_vertical c.args.edge c.requires.some) c.edge_strengths-strengths.ensures (c.are_none.ensures none)

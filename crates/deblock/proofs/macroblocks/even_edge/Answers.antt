use Rattle.std.proofs.Common.{◌≡◌, true, rules}
use Rattle.deblock.proofs.IdleEdges.{chroma_weak_edge, luma_weak_even}
use Rattle.deblock.proofs.macroblocks.even_edge.Goals as goal

pub returns-else-not-are_none-clause-y : goal.returns-else-not-are_none-clause-y
returns-else-not-are_none-clause-y c =
    let none : c.are_none.result ≡ true = search rules in
    luma_weak_even c.args.size.width c.args.marks.now c.args.mb c.args.other c.args.is_vertical c.args.chroma_number c.edge_strengths-strengths.result c.args.y.now c.requires.edge c.requires.other c.edge_strengths-strengths.ensures (c.are_none.ensures none)

pub returns-else-not-are_none-clause-cb : goal.returns-else-not-are_none-clause-cb
returns-else-not-are_none-clause-cb c =
    let none : c.are_none.result ≡ true = search rules in
    chroma_weak_edge c.args.info.now.chroma_qp_index_offset c.args.size.width c.args.marks.now c.args.mb c.args.other c.args.is_vertical c.args.chroma_number c.edge_strengths-strengths.result c.args.cb.now c.requires.edge c.requires.other c.edge_strengths-strengths.ensures (c.are_none.ensures none)

pub returns-else-not-are_none-clause-cr : goal.returns-else-not-are_none-clause-cr
returns-else-not-are_none-clause-cr c =
    let none : c.are_none.result ≡ true = search rules in
    chroma_weak_edge c.args.info.now.chroma_qp_index_offset c.args.size.width c.args.marks.now c.args.mb c.args.other c.args.is_vertical c.args.chroma_number c.edge_strengths-strengths.result c.args.cr.now c.requires.edge c.requires.other c.edge_strengths-strengths.ensures (c.are_none.ensures none)

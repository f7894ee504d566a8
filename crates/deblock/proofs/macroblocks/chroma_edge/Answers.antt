use Rattle.std.proofs.Common.{◌*◌}
use Rattle.deblock.specs.Lines.{after_chroma_line}
use Rattle.deblock.proofs.EdgeRuns.{chroma_before, chroma_inside, chroma_run_is, strengths_most}
use Rattle.deblock.proofs.macroblocks.chroma_edge.Goals as goal

pub chroma_run-requires-clause-before : goal.chroma_run-requires-clause-before
chroma_run-requires-clause-before c = chroma_before c.args.size.width c.args.mb c.args.other c.args.is_vertical c.args.edge c.run_of-run.result c.requires.size.some_column c.requires.edge c.requires.other c.run_of-run.ensures

pub chroma_run-requires-clause-after : goal.chroma_run-requires-clause-after
chroma_run-requires-clause-after c = chroma_inside c.args.size.width c.args.size.height c.args.mb c.args.is_vertical c.args.edge c.run_of-run.result _ c.requires.size.some_column c.requires.mb c.requires.edge c.run_of-run.ensures c.requires.plane

pub chroma_run-requires-clause-strengths : goal.chroma_run-requires-clause-strengths
chroma_run-requires-clause-strengths c = strengths_most c.args.size.width c.args.marks.now c.args.mb c.args.is_vertical (2 * c.args.edge) c.args.strengths c.requires.strengths

pub returns : goal.returns
returns c =
    chroma_run_is after_chroma_line c.args.info.now.chroma_qp_index_offset c.args.size.width c.args.marks.now c.args.mb c.args.other c.args.is_vertical c.args.edge c.run_of-run.result c.chroma_indexes-indexes.result c.args.strengths c.args.plane.now _ c.requires.edge
    (record { met = c.requires.other; a = c.chroma_indexes-indexes.ensures.a; b = c.chroma_indexes-indexes.ensures.b; strengths = c.requires.strengths })
    c.run_of-run.ensures c.chroma_run.ensures

use Rattle.deblock.specs.Lines.{after_luma_line}
use Rattle.deblock.proofs.EdgeRuns.{luma_inside, luma_run_is, strengths_most}
use Rattle.deblock.proofs.macroblocks.luma_edge.Goals as goal

pub luma_run-requires-clause-after : goal.luma_run-requires-clause-after
luma_run-requires-clause-after c = luma_inside c.args.size.width c.args.size.height c.args.mb c.args.is_vertical c.args.edge c.run_of-run.result _ c.requires.size.some_column c.requires.mb c.requires.edge c.run_of-run.ensures c.requires.y

pub luma_run-requires-clause-strengths : goal.luma_run-requires-clause-strengths
luma_run-requires-clause-strengths c = strengths_most c.args.size.width c.args.marks.now c.args.mb c.args.is_vertical c.args.edge c.args.strengths c.requires.strengths

pub returns : goal.returns
returns c =
    luma_run_is after_luma_line c.args.size.width c.args.marks.now c.args.mb c.args.other c.args.is_vertical c.args.edge c.run_of-run.result c.luma_indexes-indexes.result c.args.strengths c.args.y.now _ c.requires.edge
    (record { met = c.requires.other; a = c.luma_indexes-indexes.ensures.a; b = c.luma_indexes-indexes.ensures.b; strengths = c.requires.strengths })
    c.run_of-run.ensures c.luma_run.ensures

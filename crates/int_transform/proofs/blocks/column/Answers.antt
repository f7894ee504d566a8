use Rattle.std.proofs.Common.{lit<}
use Rattle.int_transform.proofs.Whole.{column_is, column_within_r, round_fits}
use Rattle.int_transform.proofs.blocks.column.Goals as goal

pub overflow_add-result : goal.overflow_add-result
overflow_add-result c = round_fits _ (column_within_r c.transformed.result c.args.d0 c.args.d1 c.args.d2 c.args.d3 c.requires.d0 c.requires.d1 c.requires.d2 c.requires.d3 c.transformed.ensures 0 (lit< tt))

pub overflow_add-result-2 : goal.overflow_add-result-2
overflow_add-result-2 c = round_fits _ (column_within_r c.transformed.result c.args.d0 c.args.d1 c.args.d2 c.args.d3 c.requires.d0 c.requires.d1 c.requires.d2 c.requires.d3 c.transformed.ensures 1 (lit< tt))

pub overflow_add-result-3 : goal.overflow_add-result-3
overflow_add-result-3 c = round_fits _ (column_within_r c.transformed.result c.args.d0 c.args.d1 c.args.d2 c.args.d3 c.requires.d0 c.requires.d1 c.requires.d2 c.requires.d3 c.transformed.ensures 2 (lit< tt))

pub overflow_add-result-4 : goal.overflow_add-result-4
overflow_add-result-4 c = round_fits _ (column_within_r c.transformed.result c.args.d0 c.args.d1 c.args.d2 c.args.d3 c.requires.d0 c.requires.d1 c.requires.d2 c.requires.d3 c.transformed.ensures 3 (lit< tt))

pub returns : goal.returns
returns c = column_is c.transformed.result c.args.d0 c.args.d1 c.args.d2 c.args.d3 c.requires.d0 c.requires.d1 c.requires.d2 c.requires.d3 c.transformed.ensures

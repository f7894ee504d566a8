use Rattle.int_transform.proofs.Whole.{fits0, fits1, fits2, fits3, transformed_is}
use Rattle.int_transform.proofs.blocks.transformed.Goals as goal

pub overflow_add-result : goal.overflow_add-result
overflow_add-result c = fits0 c.args.d0 c.args.d1 c.args.d2 c.args.d3 c.requires.d0 c.requires.d1 c.requires.d2 c.requires.d3

pub overflow_add-result-2 : goal.overflow_add-result-2
overflow_add-result-2 c = fits1 c.args.d0 c.args.d1 c.args.d2 c.args.d3 c.requires.d0 c.requires.d1 c.requires.d2 c.requires.d3

pub overflow_sub-result : goal.overflow_sub-result
overflow_sub-result c = fits2 c.args.d0 c.args.d1 c.args.d2 c.args.d3 c.requires.d0 c.requires.d1 c.requires.d2 c.requires.d3

pub overflow_sub-result-2 : goal.overflow_sub-result-2
overflow_sub-result-2 c = fits3 c.args.d0 c.args.d1 c.args.d2 c.args.d3 c.requires.d0 c.requires.d1 c.requires.d2 c.requires.d3

pub returns : goal.returns
returns c = transformed_is c.args.d0 c.args.d1 c.args.d2 c.args.d3 c.requires.d0 c.requires.d1 c.requires.d2 c.requires.d3

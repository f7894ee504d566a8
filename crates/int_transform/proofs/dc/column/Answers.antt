use Rattle.std.proofs.Common.{◌^◌, [], lit<, lit≤}
use Rattle.int_transform.specs.DcBlocks.{times_four}
use Rattle.int_transform.proofs.BlockRows.{within_kept}
use Rattle.int_transform.proofs.DcValues.{AreValues, column_values, product_of}
use Rattle.int_transform.proofs.Places.{within_four, within_none}
use Rattle.int_transform.proofs.dc.column.Goals as goal

pub scaled_dc-requires-clause-f : goal.scaled_dc-requires-clause-f
scaled_dc-requires-clause-f c =
    let product : AreValues (2 ^ 16) (times_four c.args.c0 c.args.c1 c.args.c2 c.args.c3) c.times_four.result = product_of (2 ^ 14) c.args.c0 c.args.c1 c.args.c2 c.args.c3 _ (lit≤ tt) c.requires.c0 c.requires.c1 c.requires.c2 c.requires.c3 c.times_four.ensures in
    within_kept (2 ^ 16) (2 ^ 16) _ (lit< tt) (lit≤ tt) (product.within 0 (lit< tt))

pub scaled_dc-requires-2-clause-f : goal.scaled_dc-requires-2-clause-f
scaled_dc-requires-2-clause-f c =
    let product : AreValues (2 ^ 16) (times_four c.args.c0 c.args.c1 c.args.c2 c.args.c3) c.times_four.result = product_of (2 ^ 14) c.args.c0 c.args.c1 c.args.c2 c.args.c3 _ (lit≤ tt) c.requires.c0 c.requires.c1 c.requires.c2 c.requires.c3 c.times_four.ensures in
    within_kept (2 ^ 16) (2 ^ 16) _ (lit< tt) (lit≤ tt) (product.within 1 (lit< tt))

pub scaled_dc-requires-3-clause-f : goal.scaled_dc-requires-3-clause-f
scaled_dc-requires-3-clause-f c =
    let product : AreValues (2 ^ 16) (times_four c.args.c0 c.args.c1 c.args.c2 c.args.c3) c.times_four.result = product_of (2 ^ 14) c.args.c0 c.args.c1 c.args.c2 c.args.c3 _ (lit≤ tt) c.requires.c0 c.requires.c1 c.requires.c2 c.requires.c3 c.times_four.ensures in
    within_kept (2 ^ 16) (2 ^ 16) _ (lit< tt) (lit≤ tt) (product.within 2 (lit< tt))

pub scaled_dc-requires-4-clause-f : goal.scaled_dc-requires-4-clause-f
scaled_dc-requires-4-clause-f c =
    let product : AreValues (2 ^ 16) (times_four c.args.c0 c.args.c1 c.args.c2 c.args.c3) c.times_four.result = product_of (2 ^ 14) c.args.c0 c.args.c1 c.args.c2 c.args.c3 _ (lit≤ tt) c.requires.c0 c.requires.c1 c.requires.c2 c.requires.c3 c.times_four.ensures in
    within_kept (2 ^ 16) (2 ^ 16) _ (lit< tt) (lit≤ tt) (product.within 3 (lit< tt))

pub returns-clause-values : goal.returns-clause-values
returns-clause-values c =
    let product : AreValues (2 ^ 16) (times_four c.args.c0 c.args.c1 c.args.c2 c.args.c3) c.times_four.result = product_of (2 ^ 14) c.args.c0 c.args.c1 c.args.c2 c.args.c3 _ (lit≤ tt) c.requires.c0 c.requires.c1 c.requires.c2 c.requires.c3 c.times_four.ensures in
    column_values _ _ _ _ _ _ _ _ _ c.args.qp product c.scaled_dc.ensures.within c.scaled_dc-2.ensures.within c.scaled_dc-3.ensures.within c.scaled_dc-4.ensures.within c.scaled_dc.ensures.value c.scaled_dc-2.ensures.value c.scaled_dc-3.ensures.value c.scaled_dc-4.ensures.value

pub returns-clause-within : goal.returns-clause-within
returns-clause-within c =
    within_four (2 ^ 27) _ _ _ _ []
    (within_kept (2 ^ 27) (2 ^ 27) _ (lit< tt) (lit≤ tt) c.scaled_dc.ensures.within)
    (within_kept (2 ^ 27) (2 ^ 27) _ (lit< tt) (lit≤ tt) c.scaled_dc-2.ensures.within)
    (within_kept (2 ^ 27) (2 ^ 27) _ (lit< tt) (lit≤ tt) c.scaled_dc-3.ensures.within)
    (within_kept (2 ^ 27) (2 ^ 27) _ (lit< tt) (lit≤ tt) c.scaled_dc-4.ensures.within)
    (within_none (2 ^ 27))

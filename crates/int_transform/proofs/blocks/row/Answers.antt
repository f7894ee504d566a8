use Rattle.std.proofs.Common.{lit<, lit≤, ◌^◌}
use Rattle.int_transform.proofs.BlockRows.{IsRow, level_kept, row_is, within_kept}
use Rattle.int_transform.proofs.blocks.row.Goals as goal

pub scaled-requires-clause-level : goal.scaled-requires-clause-level
scaled-requires-clause-level c = level_kept _ _ c.requires.ac c.requires.i

pub scaled-requires-2-clause-level : goal.scaled-requires-2-clause-level
scaled-requires-2-clause-level c = level_kept _ _ c.requires.ac c.requires.j

pub scaled-requires-3-clause-level : goal.scaled-requires-3-clause-level
scaled-requires-3-clause-level c = level_kept _ _ c.requires.ac c.requires.k

pub transformed-requires : goal.transformed-requires
transformed-requires c =
    record {
      d0 = within_kept (2 ^ 27) (2 ^ 29) _ (lit< tt) (lit≤ tt) c.requires.d0;
      d1 = within_kept (2 ^ 27) (2 ^ 29) _ (lit< tt) (lit≤ tt) c.scaled.ensures.within;
      d2 = within_kept (2 ^ 27) (2 ^ 29) _ (lit< tt) (lit≤ tt) c.scaled-2.ensures.within;
      d3 = within_kept (2 ^ 27) (2 ^ 29) _ (lit< tt) (lit≤ tt) c.scaled-3.ensures.within;
    }

pub returns-clause-within : goal.returns-clause-within
returns-clause-within c =
    let row : IsRow c.args.d0 c.scaled.result c.scaled-2.result c.scaled-3.result c.transformed.result =
    row_is _ _ _ _ _ c.requires.d0 c.scaled.ensures.within c.scaled-2.ensures.within c.scaled-3.ensures.within c.transformed.ensures in
    row.within

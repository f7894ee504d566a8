use Rattle.std.proofs.Common.{◌≡◌, length, lit<, rules, ◌∙◌}
use Rattle.int_transform.proofs.DcValues.{levels_row, levels_row_within, luma_is}
use Rattle.int_transform.proofs.dc.luma_dc.Goals as goal

pub columns-requires : goal.columns-requires
columns-requires c =
    let count : length c.args.levels.now ≡ 16 = search rules in
    record {
      first = levels_row_within _ 0 1 5 6 _ c.requires.levels count (lit< tt) (lit< tt) (lit< tt) (lit< tt) c.times_four.ensures;
      second = levels_row_within _ 2 4 7 12 _ c.requires.levels count (lit< tt) (lit< tt) (lit< tt) (lit< tt) c.times_four-2.ensures;
      third = levels_row_within _ 3 8 11 13 _ c.requires.levels count (lit< tt) (lit< tt) (lit< tt) (lit< tt) c.times_four-3.ensures;
      fourth = levels_row_within _ 9 10 14 15 _ c.requires.levels count (lit< tt) (lit< tt) (lit< tt) (lit< tt) c.times_four-4.ensures;
      qp = c.requires.qp;
    }

pub returns-clause-values : goal.returns-clause-values
returns-clause-values c =
    let count : length c.args.levels.now ≡ 16 = search rules in
    let first = levels_row _ 0 1 5 6 _ c.requires.levels count (lit< tt) (lit< tt) (lit< tt) (lit< tt) c.times_four.ensures in
    let second = levels_row _ 2 4 7 12 _ c.requires.levels count (lit< tt) (lit< tt) (lit< tt) (lit< tt) c.times_four-2.ensures in
    let third = levels_row _ 3 8 11 13 _ c.requires.levels count (lit< tt) (lit< tt) (lit< tt) (lit< tt) c.times_four-3.ensures in
    let fourth = levels_row _ 9 10 14 15 _ c.requires.levels count (lit< tt) (lit< tt) (lit< tt) (lit< tt) c.times_four-4.ensures in
    λ row column hr hc. c.columns.ensures.values row column hr hc ∙ luma_is c.args.levels.now _ _ _ _ c.args.qp first.is second.is third.is fourth.is row column

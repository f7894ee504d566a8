use Rattle.std.proofs.Common.{◌≡◌, ◌^◌, [], length, lit<, lit≤, rules}
use Rattle.int_transform.proofs.BlockRows.{scale_kept, within_kept}
use Rattle.int_transform.proofs.DcValues.{chroma_is, chroma_row}
use Rattle.int_transform.proofs.Places.{within_four, within_none}
use Rattle.int_transform.proofs.dc.chroma_dc.Goals as goal

pub half-requires-clause-f : goal.half-requires-clause-f
half-requires-clause-f c =
    let count : length c.args.levels.now ≡ 4 = search rules in
    within_kept (2 ^ 14) (2 ^ 14) _ (lit< tt) (lit≤ tt) ((chroma_row _ _ c.requires.levels count c.times_four.ensures).within 0 (lit< tt))

pub half-requires-2-clause-f : goal.half-requires-2-clause-f
half-requires-2-clause-f c =
    let count : length c.args.levels.now ≡ 4 = search rules in
    within_kept (2 ^ 14) (2 ^ 14) _ (lit< tt) (lit≤ tt) ((chroma_row _ _ c.requires.levels count c.times_four.ensures).within 3 (lit< tt))

pub half-requires-3-clause-f : goal.half-requires-3-clause-f
half-requires-3-clause-f c =
    let count : length c.args.levels.now ≡ 4 = search rules in
    within_kept (2 ^ 14) (2 ^ 14) _ (lit< tt) (lit≤ tt) ((chroma_row _ _ c.requires.levels count c.times_four.ensures).within 1 (lit< tt))

pub half-requires-4-clause-f : goal.half-requires-4-clause-f
half-requires-4-clause-f c =
    let count : length c.args.levels.now ≡ 4 = search rules in
    within_kept (2 ^ 14) (2 ^ 14) _ (lit< tt) (lit≤ tt) ((chroma_row _ _ c.requires.levels count c.times_four.ensures).within 2 (lit< tt))

pub returns-clause-values : goal.returns-clause-values
returns-clause-values c =
    let count : length c.args.levels.now ≡ 4 = search rules in
    chroma_is c.args.levels.now c.args.qpc _ c.scale-scale.result _ _ _ _ (chroma_row _ _ c.requires.levels count c.times_four.ensures) (scale_kept c.args.qpc 0 _ c.requires.qpc (lit≤ tt) c.scale-scale.ensures.value)
    c.half.ensures.within c.half-2.ensures.within c.half-3.ensures.within c.half-4.ensures.within c.half.ensures.value c.half-2.ensures.value c.half-3.ensures.value c.half-4.ensures.value

pub returns-clause-within : goal.returns-clause-within
returns-clause-within c =
    within_four (2 ^ 27) _ _ _ _ []
    (within_kept (2 ^ 27) (2 ^ 27) _ (lit< tt) (lit≤ tt) c.half.ensures.within)
    (within_kept (2 ^ 27) (2 ^ 27) _ (lit< tt) (lit≤ tt) c.half-2.ensures.within)
    (within_kept (2 ^ 27) (2 ^ 27) _ (lit< tt) (lit≤ tt) c.half-3.ensures.within)
    (within_kept (2 ^ 27) (2 ^ 27) _ (lit< tt) (lit≤ tt) c.half-4.ensures.within)
    (within_none (2 ^ 27))

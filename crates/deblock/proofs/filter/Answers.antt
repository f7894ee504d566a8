use Rattle.deblock.proofs.Pictures.{cb_count, cr_count, luma_count, offset_within}
use Rattle.deblock.proofs.filter.Goals as goal

pub filter_planes-requires-clause-offset : goal.filter_planes-requires-clause-offset
filter_planes-requires-clause-offset c = offset_within c.args.info.now c.requires.info

pub filter_planes-requires-clause-y : goal.filter_planes-requires-clause-y
filter_planes-requires-clause-y c = luma_count c.args.picture.now c.args.size _ c.requires.picture c.samples_mut.ensures.count

pub filter_planes-requires-clause-cb : goal.filter_planes-requires-clause-cb
filter_planes-requires-clause-cb c = cb_count c.args.picture.now c.args.size _ c.requires.picture c.samples_mut-2.ensures.count

pub filter_planes-requires-clause-cr : goal.filter_planes-requires-clause-cr
filter_planes-requires-clause-cr c = cr_count c.args.picture.now c.args.size _ c.requires.picture c.samples_mut-3.ensures.count

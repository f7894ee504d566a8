use Rattle.cb_types.proofs.InfoFacts.{info_facts}
use Rattle.ref_lists.proofs.edits.counted_to.Goals as goal

pub max_frame_num-max-requires : goal.max_frame_num-max-requires
max_frame_num-max-requires c = let facts = info_facts c.args.info.now c.requires.info in facts.log2_max_frame_num_minus4

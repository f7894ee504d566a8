use Rattle.std.proofs.Common.{◌+◌, ◌≤◌, arith}
use Rattle.std.proofs.Math.Pow.{pow_mono}
use Rattle.cb_types.proofs.InfoFacts.{info_facts}
use Rattle.ref_lists.proofs.edits.is_short_term.Goals as goal

pub unwrapped-requires-then-not-entry-clause-small : goal.unwrapped-requires-then-not-entry-clause-small
unwrapped-requires-then-not-entry-clause-small c =
    let facts = info_facts c.args.info.now c.requires.info in
    let few : c.args.info.now.log2_max_frame_num_minus4 + 4 ≤ 16 = omega (arith, facts.log2_max_frame_num_minus4) in
    omega (arith, pow_mono few, c.requires.counted)

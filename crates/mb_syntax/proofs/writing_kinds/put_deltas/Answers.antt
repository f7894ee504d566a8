use Rattle.std.proofs.Common.{◌<◌, arith}
use Rattle.mb_syntax.specs.Kinds.{sub_parts}
use Rattle.mb_syntax.proofs.InterLemmas.{spelled_at}
use Rattle.mb_syntax.proofs.writing_kinds.put_deltas.Goals as goal

pub put_vector-requires : goal.put_vector-requires
put_vector-requires c =
    let below : c.loop-i.i < sub_parts c.args.kind = omega (arith, c.loop-i-test.true, c.sub_parts-i-end.ensures.sub_parts) in
    spelled_at c.args.kind c.loop-i.i c.args.deltas.now _ below c.requires

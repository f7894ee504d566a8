use Rattle.std.proofs.Common.{length}
use Rattle.mb_syntax.proofs.WholeKinds.{written_at}
use Rattle.mb_syntax.specs.Prediction.{prediction_bits}
use Rattle.mb_syntax.proofs.writing_kinds.put_prediction.Goals as goal

pub returns-in-Pcm-clause-ok : goal.returns-in-Pcm-clause-ok
unfolding prediction_bits
returns-in-Pcm-clause-ok c = written_at c.args.slice.now (length c.args.out.now) c.args.kind.now _ c.args.out.now c.put_pcm.new.out c.put_pcm.result c.in-Pcm.is c.put_pcm.ensures.ok

pub returns-in-Intra4-clause-ok : goal.returns-in-Intra4-clause-ok
unfolding prediction_bits
returns-in-Intra4-clause-ok c = written_at c.args.slice.now (length c.args.out.now) c.args.kind.now _ c.args.out.now c.put_intra4.new.out c.put_intra4.result c.in-Intra4.is c.put_intra4.ensures.ok

pub returns-in-Intra16-clause-ok : goal.returns-in-Intra16-clause-ok
unfolding prediction_bits
returns-in-Intra16-clause-ok c = written_at c.args.slice.now (length c.args.out.now) c.args.kind.now _ c.args.out.now c.put_ue.new.self c.put_ue.result c.in-Intra16.is c.put_ue.ensures.ok

pub returns-in-Whole-clause-ok : goal.returns-in-Whole-clause-ok
unfolding prediction_bits
returns-in-Whole-clause-ok c = written_at c.args.slice.now (length c.args.out.now) c.args.kind.now _ c.args.out.now c.put_whole.new.out c.put_whole.result c.in-Whole.is c.put_whole.ensures.ok

pub returns-in-Wide-clause-ok : goal.returns-in-Wide-clause-ok
unfolding prediction_bits
returns-in-Wide-clause-ok c = written_at c.args.slice.now (length c.args.out.now) c.args.kind.now _ c.args.out.now c.put_parts.new.out c.put_parts.result c.in-Wide.is c.put_parts.ensures.ok

pub returns-in-Tall-clause-ok : goal.returns-in-Tall-clause-ok
unfolding prediction_bits
returns-in-Tall-clause-ok c = written_at c.args.slice.now (length c.args.out.now) c.args.kind.now _ c.args.out.now c.put_parts-in-Tall.new.out c.put_parts-in-Tall.result c.in-Tall.is c.put_parts-in-Tall.ensures.ok

pub returns-in-Four-clause-ok : goal.returns-in-Four-clause-ok
unfolding prediction_bits
returns-in-Four-clause-ok c = written_at c.args.slice.now (length c.args.out.now) c.args.kind.now _ c.args.out.now c.put_four.new.out c.put_four.result c.in-Four.is c.put_four.ensures.ok

pub returns-in-FourFirst-clause-ok : goal.returns-in-FourFirst-clause-ok
unfolding prediction_bits
returns-in-FourFirst-clause-ok c = written_at c.args.slice.now (length c.args.out.now) c.args.kind.now _ c.args.out.now c.put_four_first.new.out c.put_four_first.result c.in-FourFirst.is c.put_four_first.ensures.ok

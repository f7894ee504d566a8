use Rattle.std.proofs.lemmas.Result.{on_ok_weaker}
use Rattle.mb_syntax.proofs.IntraLemmas.{pcm_written}
use Rattle.mb_syntax.proofs.writing_kinds.put_pcm.Goals as goal

pub returns-clause-ok : goal.returns-clause-ok
returns-clause-ok c = on_ok_weaker c.put_samples.result
    (λ e. pcm_written c.bits_to_byte-zeros.result c.args.samples.now c.args.out.now c.put_u.new.self c.put_samples.new.out c.bits_to_byte-zeros.ensures c.in_ok-put_u.ensures.ok e) c.put_samples.ensures.ok

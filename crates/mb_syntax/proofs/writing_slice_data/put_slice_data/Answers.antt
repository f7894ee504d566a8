use Rattle.std.proofs.Common.{◌≡◌, Bool, List, OnOk, subst}
use Rattle.mb_syntax.proofs.WriteLemmas.{ended}
use Rattle.mb_syntax.proofs.writing_slice_data.put_slice_data.Goals as goal

pub returns-clause-ok : goal.returns-clause-ok
returns-clause-ok c =
    subst (λ (x : List Bool). OnOk c.finish.result (c.finish.new.self ≡ x))
    (ended c.args.slice.now c.args.mbs.now c.args.out.now c.put_macroblocks.new.out c.put_last_run.new.out c.in_ok-run.run' c.in_ok-run.ensures.ok.0 c.in_ok-put_last_run.ensures.ok) c.finish.ensures.ok

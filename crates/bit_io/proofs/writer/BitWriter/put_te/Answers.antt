use Rattle.std.proofs.Common.{◌++◌, ap, sym, ◌∙◌}
use Rattle.std.proofs.lemmas.Result.{on_ok_weaker}
use Rattle.bit_io.proofs.LawLemmas.{te_one_at, te_more}
use Rattle.bit_io.proofs.writer.BitWriter.put_te.Goals as goal

pub returns-then-greatest-eq1-clause-ok : goal.returns-then-greatest-eq1-clause-ok
returns-then-greatest-eq1-clause-ok c =
    on_ok_weaker c.put_u.result (λ e. e ∙ ap (λ x. c.args.self.now ++ x) (sym (te_one_at c.args.value c.args.greatest c.if-greatest-eq1.true c.requires.value.0))) c.put_u.ensures.ok

pub returns-else-greatest-eq1-clause-ok : goal.returns-else-greatest-eq1-clause-ok
returns-else-greatest-eq1-clause-ok c =
    on_ok_weaker c.put_ue.result (λ e. e ∙ ap (λ x. c.args.self.now ++ x) (sym (te_more c.args.value c.args.greatest c.if-greatest-eq1.false))) c.put_ue.ensures.ok
